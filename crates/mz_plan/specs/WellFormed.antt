-- When each place that a plan names is there and has the type that its use needs.
use Rattle.std.specs.Prelude.{◌≡◌, ◌<◌, ℕ, List, Option, None, Some, IsTrue, length, slice_get, ⊤}
use Rattle.std.specs.List.{AllByRecursion as Each}
use Rattle.mz_value.specs.declared.datum.Datum.{Datum}
use Rattle.mz_statement.specs.declared.column.ColumnType.{ColumnType}
use Rattle.mz_statement.specs.declared.column.ColumnType.TheVariants as kind
use Rattle.mz_plan.specs.Types.{may_compare, plan_types}
use Rattle.mz_plan.specs.declared.aggregate.Aggregate.{Aggregate}
use Rattle.mz_plan.specs.declared.aggregate.Aggregate.TheVariants.{Count, Sum, Min, Max}
use Rattle.mz_plan.specs.declared.condition.Cond.{Cond, All', Any', Not', Compare, Row_of-Cond, more_of-Cond, end_of-Cond}
use Rattle.mz_plan.specs.declared.condition.Operand.{Operand}
use Rattle.mz_plan.specs.declared.condition.Operand.TheVariants.{Place, Literal}
use Rattle.mz_plan.specs.declared.item.Item.{Item}
use Rattle.mz_plan.specs.declared.plan.Plan.{Plan, Table, Index, Filter', Project', Join', Union', Group', Distinct', more_of-Plan, end_of-Plan}

-- there is a column at the place, and it has this type
abbrev pub IsTyped : List ColumnType → ℕ → ColumnType → Type 0
IsTyped types place of_type = slice_get types place ≡ Some of_type

-- there is a column at the one place and one at the other, and both have one type
pub record AreOfOneType (types : List ColumnType) (place : ℕ) (others : List ColumnType) (other : ℕ) : Type 0 where
  pub of_type : ColumnType
  pub here : IsTyped types place of_type
  pub there : IsTyped others other of_type

-- there is a column at the place, and it may be compared with the literal
pub record IsComparable (types : List ColumnType) (place : ℕ) (literal : Datum) : Type 0 where
  pub of_type : ColumnType
  pub here : IsTyped types place of_type
  pub fits : IsTrue (may_compare of_type literal)

-- what the column at a place is compared with fits it
abbrev pub OperandFits : List ColumnType → ℕ → Operand → Type 0
OperandFits types place (Place other) = AreOfOneType types place types other
OperandFits types place (Literal literal) = IsComparable types place literal

abbrev mutual
  -- each comparison of a condition fits rows of these types
  pub CondFits : List ColumnType → Cond → Type 0
  CondFits types (All' shape conds) = AllFit types conds
  CondFits types (Any' shape conds) = AllFit types conds
  CondFits types (Not' p (more_of-Cond cond end_of-Cond)) = CondFits types cond
  CondFits types (Compare place op operand) = OperandFits types place operand

  -- so it is in each of the conditions
  pub AllFit : {m : _} → List ColumnType → Row_of-Cond m → Type 0
  AllFit types end_of-Cond = ⊤
  AllFit types (more_of-Cond cond conds) = CondFits types cond × AllFit types conds

-- a condition fits, where there is one
abbrev pub SomeCondFits : List ColumnType → Option Cond → Type 0
SomeCondFits types None = ⊤
SomeCondFits types (Some cond) = CondFits types cond

-- an aggregate has its column, and that of SUM is an INT
abbrev pub AggregateFits : List ColumnType → Aggregate → Type 0
AggregateFits types Count = ⊤
AggregateFits types (Sum place) = IsTyped types place kind.Int
AggregateFits types (Min place) = place < length types
AggregateFits types (Max place) = place < length types

-- there is a column at each place
abbrev pub PlacesFit : List ColumnType → List ℕ → Type 0
PlacesFit types places = Each (λ place. place < length types) places

-- the two columns of each pair are there, and have one type
abbrev pub PairsFit : List ColumnType → List ColumnType → List (ℕ × ℕ) → Type 0
PairsFit types others pairs = Each (λ pair. AreOfOneType types pair.0 others pair.1) pairs

-- each operator of a plan fits the columns of the plans below it. The sides of a union have the same types
abbrev pub IsWellFormed : List Item → Plan → Type 0
IsWellFormed items (Table id) = ⊤
IsWellFormed items (Index id) = ⊤
IsWellFormed items (Filter' s (more_of-Plan plan end_of-Plan) cond) = IsWellFormed items plan × CondFits (plan_types items plan) cond
IsWellFormed items (Project' s (more_of-Plan plan end_of-Plan) places) = IsWellFormed items plan × PlacesFit (plan_types items plan) places
IsWellFormed items (Join' s (more_of-Plan left end_of-Plan) r (more_of-Plan right end_of-Plan) pairs) =
    IsWellFormed items left × IsWellFormed items right × PairsFit (plan_types items left) (plan_types items right) pairs
IsWellFormed items (Union' s (more_of-Plan left end_of-Plan) r (more_of-Plan right end_of-Plan)) =
    IsWellFormed items left × IsWellFormed items right × (plan_types items left ≡ plan_types items right)
IsWellFormed items (Group' s (more_of-Plan plan end_of-Plan) places aggregates) =
    IsWellFormed items plan × PlacesFit (plan_types items plan) places × Each (AggregateFits (plan_types items plan)) aggregates
IsWellFormed items (Distinct' s (more_of-Plan plan end_of-Plan)) = IsWellFormed items plan
