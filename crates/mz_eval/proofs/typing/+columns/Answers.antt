use Rattle.std.proofs.Common.{◌≡◌, ◌++◌, List, [], IfOk, filter_map, sym, ap, refl, subst, ◌∙◌, arith}
use Rattle.mz_statement.specs.declared.column.Column.{Column}
use Rattle.mz_plan.specs.Typed.{aggregate_column, columns_at, plan_columns}
use Rattle.mz_plan.proofs.FirstRules.{first_of_filter, first_of_project, first_of_join, first_of_union, first_of_group, first_of_distinct, steps, steps_of_join}
use Rattle.mz_plan.proofs.TypeRules.{columns_of_filter, columns_of_project, columns_of_join, columns_of_union, columns_of_group, columns_of_distinct}
use Rattle.mz_eval.proofs.ColumnRules.{AreColumns, columns_below, columns_first, columns_same}
use Rattle.mz_eval.proofs.NodeRules.{rises_lighter, rises_more, rises_taken}
use Rattle.mz_eval.proofs.typing.+columns.Goals as goal

-- a plan below has no more operators, and the columns are those below it
pub plan_columns-columns_over-requires : goal.plan_columns-columns_over-requires
plan_columns-columns_over-requires t c = (
  omega (
    arith,
    c.decreases,
    rises_lighter (λ node. (node.0.now, node.1.now)) (AreColumns c.args.items.now) (c.args.plan.now, []) c.up.nodes.items c.pop.new.self.items c.in-Some.node
        c.up.columns.items c.in-Some.ensures.items c.up.invariant,
  ),
  columns_first c.args.items.now c.in-Some.node.1.now c.in-Some.node.0.now c.up.columns.items
      (rises_taken (λ node. (node.0.now, node.1.now)) (AreColumns c.args.items.now) (c.args.plan.now, []) c.up.nodes.items c.pop.new.self.items c.in-Some.node
      c.up.columns.items c.in-Some.ensures.items c.up.invariant).1,
)

-- one of those that are left has its columns
pub plan_columns-up-preserved : goal.plan_columns-up-preserved
plan_columns-up-preserved t c =
    rises_more (λ node. (node.0.now, node.1.now)) (AreColumns c.args.items.now) (c.args.plan.now, []) c.up.nodes.items c.pop.new.self.items c.in-Some.node
    c.up.columns.items c.in_ok-columns.columns.items c.in-Some.ensures.items c.up.invariant c.in_ok-columns.ensures

-- what is to the right of a join has fewer operators
pub columns_over-plan_columns-requires : goal.columns_over-plan_columns-requires
columns_over-plan_columns-requires t c = (
  omega (arith, c.decreases, ap steps c.in-Join.is ∙ steps_of_join c.in-Join._left c.in-Join.right c.in-Join._pairs, ap steps c.get.ensures),
  tt,
)

-- those below a filter
pub columns_over-returns-in-Filter : goal.columns_over-returns-in-Filter
columns_over-returns-in-Filter t c =
    columns_same c.args.items.now c.args.plan.now _ c.in-Filter._below c.args.columns.items c.in-Filter.is
    (first_of_filter c.in-Filter._below c.in-Filter._cond) (columns_of_filter c.args.items.now c.in-Filter._below c.in-Filter._cond)
    c.requires

-- the columns at the places
pub columns_over-returns-in-Project : goal.columns_over-returns-in-Project
columns_over-returns-in-Project t c =
    subst (λ (all : List Column). IfOk c.columns_at.result (λ columns. columns.items ≡ all))
    ((λ j. columns_at (c.as_slice.ensures j)
    ((c.deref.ensures.value
    ∙ columns_below c.args.items.now c.args.plan.now _ c.in-Project._below c.args.columns.items c.in-Project.is
    (first_of_project c.in-Project._below c.in-Project.places) c.requires) j))
    ∙ sym (columns_of_project c.args.items.now c.in-Project._below c.in-Project.places)
    ∙ ap (plan_columns c.args.items.now) (sym c.in-Project.is))
    c.columns_at.ensures

-- those of both sides
pub columns_over-returns-in_ok-more-in-Join : goal.columns_over-returns-in_ok-more-in-Join
columns_over-returns-in_ok-more-in-Join t c =
    subst (λ (all : List Column). IfOk c.joined.result (λ columns. columns.items ≡ all))
    ((λ j. columns_below c.args.items.now c.args.plan.now _ c.in-Join._left c.args.columns.items c.in-Join.is
    (first_of_join c.in-Join._left c.in-Join.right c.in-Join._pairs) c.requires j
    ++ (c.in_ok-more-in-Join.ensures ∙ ap (plan_columns c.args.items.now) c.get.ensures) j)
    ∙ sym (columns_of_join c.args.items.now c.in-Join._left c.in-Join.right c.in-Join._pairs)
    ∙ ap (plan_columns c.args.items.now) (sym c.in-Join.is))
    c.joined.ensures

-- those of the left side of a union
pub columns_over-returns-in-Union : goal.columns_over-returns-in-Union
columns_over-returns-in-Union t c =
    columns_same c.args.items.now c.args.plan.now _ c.in-Union._left c.args.columns.items c.in-Union.is
    (first_of_union c.in-Union._left c.in-Union._right) (columns_of_union c.args.items.now c.in-Union._left c.in-Union._right)
    c.requires

-- the keys, and the aggregates
pub columns_over-returns-in-Group : goal.columns_over-returns-in-Group
columns_over-returns-in-Group t c =
    let keyed : List Column → List Column =
    λ columns. columns_at c.in-Group.places columns ++ filter_map (aggregate_column columns) c.in-Group.aggregates in
    subst (λ (all : List Column). IfOk c.group_columns.result (λ columns. columns.items ≡ all))
    ((λ j. columns_at (c.as_slice-in-Group.ensures j) c.deref-in-Group.result.now
    ++ filter_map (aggregate_column c.deref-in-Group.result.now) (c.as_slice-in-Group-2.ensures j))
    ∙ ap keyed (c.deref-in-Group.ensures.value
    ∙ columns_below c.args.items.now c.args.plan.now _ c.in-Group._below c.args.columns.items c.in-Group.is
    (first_of_group c.in-Group._below c.in-Group.places c.in-Group.aggregates) c.requires)
    ∙ sym (columns_of_group c.args.items.now c.in-Group._below c.in-Group.places c.in-Group.aggregates)
    ∙ ap (plan_columns c.args.items.now) (sym c.in-Group.is))
    c.group_columns.ensures

-- those below a distinct
pub columns_over-returns-in-Distinct : goal.columns_over-returns-in-Distinct
columns_over-returns-in-Distinct t c =
    columns_same c.args.items.now c.args.plan.now _ c.in-Distinct._below c.args.columns.items c.in-Distinct.is
    (first_of_distinct c.in-Distinct._below) (columns_of_distinct c.args.items.now c.in-Distinct._below)
    c.requires
