-- The columns of a plan in its forms, from those of the plan below it.
use Rattle.std.proofs.Common.{◌≡◌, ap, sym, subst, ◌∙◌, ℕ, List, Option, Some, option_map}
use Rattle.mz_statement.specs.declared.column.Column.{Column}
use Rattle.mz_plan.specs.Spine.{first_of}
use Rattle.mz_plan.specs.Typed.{plan_columns}
use Rattle.mz_plan.specs.declared.item.Item.{Item}
use Rattle.mz_plan.specs.declared.plan.Plan.{Plan, Table, Index, Filter', Project', Join', Union', Group', Distinct', more_of-Plan, end_of-Plan}
use Rattle.mz_eval.specs.Columns.{AreColumnsBelow}
use Rattle.mz_eval.specs.Nodes.{Node, node_below}

-- these are the columns of the plan of a node, where there is one
abbrev pub AreColumns : List Item → Option Node → List Column → Type 0
AreColumns items node columns = AreColumnsBelow items (option_map (λ n. n.0) node) columns

-- those of the node below are those of the first plan below
pub columns_first : (items : List Item) (plans : List (ℕ × Plan)) (plan : Plan) (columns : List Column)
    → AreColumns items (node_below plans plan) columns → AreColumnsBelow items (first_of plan) columns
columns_first items plans (Table item) columns h = tt
columns_first items plans (Index item) columns h = tt
columns_first items plans (Filter' s (more_of-Plan plan end_of-Plan) cond) columns h = h
columns_first items plans (Project' s (more_of-Plan plan end_of-Plan) places) columns h = h
columns_first items plans (Join' s (more_of-Plan left end_of-Plan) r right pairs) columns h = h
columns_first items plans (Union' s (more_of-Plan left end_of-Plan) r right) columns h = h
columns_first items plans (Group' s (more_of-Plan plan end_of-Plan) places aggregates) columns h = h
columns_first items plans (Distinct' s (more_of-Plan plan end_of-Plan)) columns h = h

-- below a plan of this form
pub columns_below : (items : List Item) (plan form below : Plan) (columns : List Column) → plan ≡ form → first_of form ≡ Some below
    → AreColumnsBelow items (first_of plan) columns → columns ≡ plan_columns items below
columns_below items plan form below columns is first h = subst (λ o. AreColumnsBelow items o columns) (ap first_of is ∙ first) h

-- which may have the same itself
pub columns_same : (items : List Item) (plan form below : Plan) (columns : List Column) → plan ≡ form → first_of form ≡ Some below
    → plan_columns items form ≡ plan_columns items below → AreColumnsBelow items (first_of plan) columns
    → columns ≡ plan_columns items plan
columns_same items plan form below columns is first same h =
    columns_below items plan form below columns is first h ∙ sym same ∙ ap (plan_columns items) (sym is)
