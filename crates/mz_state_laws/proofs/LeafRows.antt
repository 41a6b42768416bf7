-- The rows of a state's tables, as the leaves of plans.
use Rattle.std.proofs.Common.{◌≡◌, ◌≤◌, ◌==◌, ℕ, Bool, true, false, cond, List, [], ◌∷◌, refl, subst, arith}
use Rattle.std.proofs.lemmas.Bool.{eqb-true}
use Rattle.std.proofs.lemmas.Int.{ints}
use Rattle.std.proofs.lemmas.List.Elements.{All-contains, All-from_recursion}
use Rattle.std.specs.Prelude.{Contains}
use Rattle.std.specs.FinMap.{entries}
use Rattle.std.specs.List.{AllByRecursion as Each}
use Rattle.mz_bag.specs.Mass.{mass}
use Rattle.mz_bag.specs.Weighted.{Weighted}
use Rattle.mz_statement.specs.declared.column.Column.{Column}
use Rattle.mz_plan.specs.Masses.{AreWithin}
use Rattle.mz_plan.specs.Meaning.{table_rows}
use Rattle.mz_plan.specs.RowTypes.{AreTyped, HaveTypes}
use Rattle.mz_plan.specs.Signs.{IsNotNegative}
use Rattle.mz_plan.specs.Small.{most_rows}
use Rattle.mz_plan.specs.Types.{types_of}
use Rattle.mz_plan.specs.declared.item.Item.{Item}
use Rattle.mz_plan.specs.declared.item.ItemKind.TheVariants.{Table}
use Rattle.mz_plan_laws.proofs.TypedValues.{each_weaker}
use Rattle.mz_resolve_laws.specs.TypedOver.{LeafTypes, TableFits}
use Rattle.mz_log.specs.Sequential.{Bags, Sequential, bag_at}
use Rattle.mz_state_laws.specs.Well.{IsTableBag, IsWellOver}
use Rattle.mz_state_laws.proofs.NumbersStay.{each_looked_up}
use Rattle.mz_state_laws.proofs.RowsStay.{rows_none}

-- what holds of each table and its rows holds of each number and what it has, if it holds where there is no row
leaf_of : (Q : ℕ → Weighted → Type 0) → ((n : ℕ) → Q n []) → (bags : Bags) → Each (λ bag. Q bag.0 (entries bag.1)) bags → (item : ℕ)
    → Q item (table_rows bags item)
leaf_of Q none [] h item = none item
leaf_of Q none (bag ∷ bags) h item = by (bag.0 == item) refl (leaf_of Q none bags h.1 item)
  where
    by : (c : Bool) → (bag.0 == item) ≡ c → Q item (table_rows bags item) → Q item (cond c (entries bag.1) (table_rows bags item))
    by true is rest = subst (λ n. Q n (entries bag.1)) (eqb-true bag.0 item is) h.0
    by false is rest = rest

-- each table is as it has to be
abbrev pub AreTables : LeafTypes → Bags → Type 0
AreTables types bags = Each (λ bag. IsTableBag (types bag.0) bag.1) bags

-- no table has more rows than one may
pub rows_within : (types : LeafTypes) (bags : Bags) → AreTables types bags → AreWithin most_rows (table_rows bags)
rows_within types bags h = record {
  within = leaf_of (λ n ws. mass ws ≤ most_rows) (λ n. omega arith) bags
      (each_weaker (λ bag. IsTableBag (types bag.0) bag.1) (λ bag. mass (entries bag.1) ≤ most_rows) (λ bag is. is.few) bags h);
}

-- all rows have the types of their table
pub rows_of_types : (types : LeafTypes) (bags : Bags) → AreTables types bags → AreTyped types (table_rows bags)
rows_of_types types bags h = record {
  each = leaf_of (λ n ws. HaveTypes (types n) ws) (λ n. tt) bags
      (each_weaker (λ bag. IsTableBag (types bag.0) bag.1) (λ bag. HaveTypes (types bag.0) (entries bag.1)) (λ bag is. is.typed) bags h);
}

-- and no count is negative
pub rows_there : (types : LeafTypes) (bags : Bags) → AreTables types bags → (item : ℕ) → IsNotNegative (table_rows bags item)
rows_there types bags h =
    leaf_of (λ n ws. IsNotNegative ws) (λ n. record { counts = λ q. omega (arith, ints) }) bags
    (each_weaker (λ bag. IsTableBag (types bag.0) bag.1) (λ bag. IsNotNegative (entries bag.1)) (λ bag is. is.counts) bags h)

-- ---- one table

-- a table among the items has rows of its columns' types
pub table_bag : (types : LeafTypes) (state : Sequential) → IsWellOver types state → (item : Item) → Contains state.database.items item
    → (columns : List Column) → item.kind ≡ Table columns → IsTableBag (types_of columns) (bag_at state.database.bags item.id)
table_bag types state well item there columns is =
    subst (λ ts. IsTableBag ts (bag_at state.database.bags item.id))
    (subst (TableFits types item.id) is
    (All-contains (λ item. TableFits types item.id item.kind) state.database.items item
    (All-from_recursion (λ item. TableFits types item.id item.kind) state.database.items well.typed.columns) there))
    (each_looked_up (λ number bag. IsTableBag (types number) bag) item.id state.database.bags well.bags (rows_none (types item.id)))
