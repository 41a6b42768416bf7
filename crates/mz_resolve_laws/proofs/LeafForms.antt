-- The types of a plan's columns are those over its leaves, and change only with them.
use Rattle.std.proofs.Common.{◌≡◌, ◌∙◌, sym, subst, ap, ℕ, List, ◌++◌}
use Rattle.std.specs.List.{AllByRecursion as Each, filter_map}
use Rattle.mz_statement.specs.declared.column.ColumnType.{ColumnType}
use Rattle.mz_plan.specs.Leaves.{AllLeaves}
use Rattle.mz_plan.specs.WellFormed.{AggregateFits, CondFits, PairsFit, PlacesFit}
use Rattle.mz_plan.specs.declared.aggregate.Aggregate.{Aggregate}
use Rattle.mz_plan.specs.declared.plan.Plan.{Plan, Table, Index, Filter', Project', Join', Union', Group', Distinct', more_of-Plan, end_of-Plan}
use Rattle.mz_plan.specs.PlanTypes.{IsFormedOver, aggregate_type, types_at, types_over}
use Rattle.mz_resolve_laws.specs.TypedOver.{LeafTypes}

-- ---- other leaves of the same types

-- the types of a group over rows of these types
abbrev group_types : List ℕ → List Aggregate → List ColumnType → List ColumnType
group_types places aggregates types = types_at places types ++ filter_map (aggregate_type types) aggregates

-- the types of a plan over leaves of the same types
pub types_same : (t i u j : LeafTypes) (plan : Plan) → AllLeaves (λ n. t n ≡ u n) (λ n. i n ≡ j n) plan
    → types_over t i plan ≡ types_over u j plan
types_same t i u j (Table item) h = h
types_same t i u j (Index item) h = h
types_same t i u j (Filter' s (more_of-Plan plan end_of-Plan) cond) h = types_same t i u j plan h
types_same t i u j (Project' s (more_of-Plan plan end_of-Plan) places) h =
    ap (types_at places) (types_same t i u j plan h)
types_same t i u j (Join' s (more_of-Plan left end_of-Plan) r (more_of-Plan right end_of-Plan) pairs) h =
    λ k. types_same t i u j left h.0 k ++ types_same t i u j right h.1 k
types_same t i u j (Union' s (more_of-Plan left end_of-Plan) r (more_of-Plan right end_of-Plan)) h = types_same t i u j left h.0
types_same t i u j (Group' s (more_of-Plan plan end_of-Plan) places aggregates) h =
    ap (group_types places aggregates) (types_same t i u j plan h)
types_same t i u j (Distinct' s (more_of-Plan plan end_of-Plan)) h = types_same t i u j plan h

-- pairs fit columns of the same types
pairs_same : (one other left right : List ColumnType) (pairs : List (ℕ × ℕ)) → one ≡ other → left ≡ right → PairsFit one left pairs
    → PairsFit other right pairs
pairs_same one other left right pairs e f h =
    subst (λ types. PairsFit other types pairs) f (subst (λ types. PairsFit types left pairs) e h)

-- a plan is well formed over leaves of the same types
pub form_same : (t i u j : LeafTypes) (plan : Plan) → AllLeaves (λ n. t n ≡ u n) (λ n. i n ≡ j n) plan
    → IsFormedOver t i plan → IsFormedOver u j plan
form_same t i u j (Table item) h k = tt
form_same t i u j (Index item) h k = tt
form_same t i u j (Filter' s (more_of-Plan plan end_of-Plan) cond) h k =
    (form_same t i u j plan h k.0, subst (λ types. CondFits types cond) (types_same t i u j plan h) k.1)
form_same t i u j (Project' s (more_of-Plan plan end_of-Plan) places) h k =
    (form_same t i u j plan h k.0, subst (λ types. PlacesFit types places) (types_same t i u j plan h) k.1)
form_same t i u j (Join' s (more_of-Plan left end_of-Plan) r (more_of-Plan right end_of-Plan) pairs) h k = (
  form_same t i u j left h.0 k.0,
  form_same t i u j right h.1 k.1,
  pairs_same _ _ _ _ pairs (types_same t i u j left h.0) (types_same t i u j right h.1) k.2,
)
form_same t i u j (Union' s (more_of-Plan left end_of-Plan) r (more_of-Plan right end_of-Plan)) h k = (
  form_same t i u j left h.0 k.0,
  form_same t i u j right h.1 k.1,
  sym (types_same t i u j left h.0) ∙ (k.2 ∙ types_same t i u j right h.1),
)
form_same t i u j (Group' s (more_of-Plan plan end_of-Plan) places aggregates) h k = (
  form_same t i u j plan h k.0,
  subst (λ types. PlacesFit types places) (types_same t i u j plan h) k.1,
  subst (λ types. Each (AggregateFits types) aggregates) (types_same t i u j plan h) k.2,
)
form_same t i u j (Distinct' s (more_of-Plan plan end_of-Plan)) h k = form_same t i u j plan h k
