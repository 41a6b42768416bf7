-- When a state of the sequential object is well: what no statement breaks.
use Rattle.std.specs.Prelude.{◌≡◌, ◌≢◌, ◌<◌, ◌≤◌, ℕ, All, AllPairs, List, [], ◌∷◌, filter, length, map, ⊤}
use Rattle.std.specs.FinMap.{entries}
use Rattle.std.specs.List.{AllByRecursion as Each}
use Rattle.mz_bag.specs.Bag.{Counts, IsBag}
use Rattle.mz_statement.specs.declared.column.ColumnType.{ColumnType}
use Rattle.mz_plan.specs.Items.{is_table}
use Rattle.mz_plan.specs.RowTypes.{HaveTypes}
use Rattle.mz_plan.specs.Signs.{IsNotNegative}
use Rattle.mz_plan.specs.Small.{index_reads, most_rows, most_tables, tables_read}
use Rattle.mz_plan.specs.declared.item.Item.{Item}
use Rattle.mz_plan.specs.declared.plan.Plan.{Plan}
use Rattle.mz_plan.specs.declared.scope.Scope.{Scope}
use Rattle.mz_resolve_laws.specs.SoundOver.{IsNewAmong, IsSoundOver}
use Rattle.mz_resolve_laws.specs.TypedOver.{IsTypedOver, LeafTypes}
use Rattle.mz_log.specs.CarriedOut.{most_items, rows_in}
use Rattle.mz_log.specs.Sequential.{Bags, Sequential}
use Rattle.mz_state_laws.specs.Reads.{AllReadOwn}

-- the items of a state, with the cluster whose indexes are read
abbrev pub scope_in : Sequential → ℕ → Scope
scope_in state cluster = record { items = state.database.items; cluster = cluster }

-- the numbers of the tables among items, in order of creation
abbrev pub tables_of : List Item → List ℕ
tables_of items = map (λ item. item.id) (filter (λ item. is_table item.kind) items)

-- the numbers of bags
abbrev pub numbers_of : Bags → List ℕ
numbers_of bags = map (λ bag. bag.0) bags

-- what a table with columns of these types may have: a row that is there is so once at least, there
-- are no more rows than a table may have, each as often as it is there, and each has a value of
-- each type
pub record IsTableBag (types : List ColumnType) (bag : Counts) : Type 0 where
  pub no_zero : IsBag bag
  pub counts : IsNotNegative (entries bag)
  pub few : rows_in bag ≤ most_rows
  pub typed : HaveTypes types (entries bag)

-- the plan of each index ever made, the newest first, reads at most as many tables as a query may,
-- also through the older ones
abbrev pub AreNarrow : List (ℕ × Plan) → Type 0
AreNarrow [] = ⊤
AreNarrow (newest ∷ older) =
    (tables_read (index_reads older) newest.1 ≤ most_tables) × AreNarrow older

-- a state is well over the types of all tables ever made, by their numbers
pub record IsWellOver (types : LeafTypes) (state : Sequential) : Type 0 where
  -- names and numbers tell the items apart, there are not too many, and all numbers are below the
  -- next
  pub names : AllPairs (λ one other. one.name ≢ other.name) state.database.items
  pub few : length state.database.items ≤ most_items
  pub below : All (λ item. item.id < state.database.next) state.database.items
  pub made : IsNewAmong state.plans state.database.next
  -- the items and the plans of indexes fit each other, and plans read few tables
  pub sound : IsSoundOver state.plans (scope_in state 0)
  pub typed : IsTypedOver types state.plans (scope_in state 0)
  pub narrow : AreNarrow state.plans
  pub reads : AllReadOwn state.plans state.database.items
  -- the tables among the items, and no others, have bags, in the same order, with rows of their
  -- types
  pub tables : numbers_of state.database.bags ≡ tables_of state.database.items
  pub bags : Each (λ bag. IsTableBag (types bag.0) bag.1) state.database.bags

-- a state is well where there are such types. Those of a table that was dropped belong to its
-- number still
pub record IsWell (state : Sequential) : Type 0 where
  pub types : LeafTypes
  pub over : IsWellOver types state

-- a later state is well, over types which are those of before for each number that was used before
pub record IsWellAfter (types : LeafTypes) (before after : Sequential) : Type 0 where
  pub later : LeafTypes
  pub same : (number : ℕ) → number < before.database.next → types number ≡ later number
  pub over : IsWellOver later after
