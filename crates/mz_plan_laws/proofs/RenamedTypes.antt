-- A plan whose leaves are renamed has the types of the plan over the leaves of these names, and is well formed where that is.
use Rattle.std.proofs.Common.{◌≡◌, ◌∙◌, ℕ, List, ◌++◌, filter_map, refl, sym, ap, subst}
use Rattle.std.specs.List.{AllByRecursion as Each}
use Rattle.mz_statement.specs.declared.column.ColumnType.{ColumnType}
use Rattle.mz_plan.specs.Leaves.{renamed}
use Rattle.mz_plan.specs.PlanTypes.{IsFormedOver, aggregate_type, types_at, types_over}
use Rattle.mz_plan.specs.WellFormed.{AggregateFits, CondFits, PairsFit, PlacesFit}
use Rattle.mz_plan.specs.declared.plan.Plan.{Plan, Table, Index, Filter', Project', Join', Union', Group', Distinct', more_of-Plan, end_of-Plan}

-- the types are those over the leaves of these names
pub types_renamed : (name : ℕ → ℕ) (tables indexes : ℕ → List ColumnType) (plan : Plan)
    → types_over tables indexes (renamed name plan) ≡ types_over (λ item. tables (name item)) (λ item. indexes (name item)) plan
unfolding Rattle.mz_plan.specs.declared.plan.Plan.TheBlock.hidden-the_row-Plan-0 denote.Hole.Carrier.hidden
types_renamed name tables indexes (Table item) = refl
types_renamed name tables indexes (Index item) = refl
types_renamed name tables indexes (Filter' s (more_of-Plan plan end_of-Plan) cond) = types_renamed name tables indexes plan
types_renamed name tables indexes (Project' s (more_of-Plan plan end_of-Plan) places) =
    ap (types_at places) (types_renamed name tables indexes plan)
types_renamed name tables indexes (Join' s (more_of-Plan left end_of-Plan) r (more_of-Plan right end_of-Plan) pairs) =
    λ i. types_renamed name tables indexes left i ++ types_renamed name tables indexes right i
types_renamed name tables indexes (Union' s (more_of-Plan left end_of-Plan) r (more_of-Plan right end_of-Plan)) =
    types_renamed name tables indexes left
types_renamed name tables indexes (Group' s (more_of-Plan plan end_of-Plan) places aggregates) =
    ap (λ types. types_at places types ++ filter_map (aggregate_type types) aggregates) (types_renamed name tables indexes plan)
types_renamed name tables indexes (Distinct' s (more_of-Plan plan end_of-Plan)) = types_renamed name tables indexes plan

-- and what fits these fits the renamed plan
pub formed_renamed : (name : ℕ → ℕ) (tables indexes : ℕ → List ColumnType) (plan : Plan)
    → IsFormedOver (λ item. tables (name item)) (λ item. indexes (name item)) plan → IsFormedOver tables indexes (renamed name plan)
unfolding Rattle.mz_plan.specs.declared.plan.Plan.TheBlock.hidden-the_row-Plan-0 denote.Hole.Carrier.hidden
formed_renamed name tables indexes (Table item) h = tt
formed_renamed name tables indexes (Index item) h = tt
formed_renamed name tables indexes (Filter' s (more_of-Plan plan end_of-Plan) cond) h =
    (formed_renamed name tables indexes plan h.0, subst (λ types. CondFits types cond) (sym (types_renamed name tables indexes plan)) h.1)
formed_renamed name tables indexes (Project' s (more_of-Plan plan end_of-Plan) places) h = (
  formed_renamed name tables indexes plan h.0,
  subst (λ types. PlacesFit types places)
      (sym (types_renamed name tables indexes plan)) h.1,
)
formed_renamed name tables indexes (Join' s (more_of-Plan left end_of-Plan) r (more_of-Plan right end_of-Plan) pairs) h = (
  formed_renamed name tables indexes left h.0,
  formed_renamed name tables indexes right h.1,
  subst (λ types. PairsFit types (types_over tables indexes (renamed name right)) pairs) (sym (types_renamed name tables indexes left))
      (subst (λ types. PairsFit (types_over (λ item. tables (name item)) (λ item. indexes (name item)) left) types pairs)
      (sym (types_renamed name tables indexes right)) h.2),
)
formed_renamed name tables indexes (Union' s (more_of-Plan left end_of-Plan) r (more_of-Plan right end_of-Plan)) h = (
  formed_renamed name tables indexes left h.0,
  formed_renamed name tables indexes right h.1,
  types_renamed name tables indexes left ∙ h.2 ∙ sym (types_renamed name tables indexes right),
)
formed_renamed name tables indexes (Group' s (more_of-Plan plan end_of-Plan) places aggregates) h = (
  formed_renamed name tables indexes plan h.0,
  subst (λ types. PlacesFit types places) (sym (types_renamed name tables indexes plan)) h.1,
  subst (λ types. Each (AggregateFits types) aggregates) (sym (types_renamed name tables indexes plan)) h.2,
)
formed_renamed name tables indexes (Distinct' s (more_of-Plan plan end_of-Plan)) h = formed_renamed name tables indexes plan h
