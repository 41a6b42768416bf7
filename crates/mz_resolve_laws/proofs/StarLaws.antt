-- A table or a view stands for what the query of all its columns gives.
use Rattle.std.proofs.Common.{◌≡◌, ◌∙◌, ◌+◌, ◌≤◌, refl, ap, ℕ, Bool, true, false, cond, List, [], ◌∷◌, ◌++◌, map, length, Result, Ok, Err, bytes_eq, nat_le, arith}
use Rattle.std.specs.Prelude.{IfOk}
use Rattle.std.proofs.lemmas.Bool.{le-leb, leb-true}
use Rattle.mz_plan.specs.Small.{most_tables}
use Rattle.mz_statement.specs.declared.column.Column.{Column}
use Rattle.mz_statement.specs.declared.query.Select.{Select}
use Rattle.mz_plan.specs.declared.item.Item.{Item}
use Rattle.mz_plan.specs.declared.item.ItemKind.{ItemKind}
use Rattle.mz_plan.specs.declared.item.ItemKind.TheVariants.{Table, View, Index}
use Rattle.mz_refusal.specs.declared.refusal.Limited.TheVariants.{Columns}
use Rattle.mz_refusal.specs.declared.refusal.Refusal.{Refusal}
use Rattle.mz_refusal.specs.declared.refusal.Refusal.TheVariants.{TooMany, TooManyLeaves}
use Rattle.mz_plan.specs.declared.scope.Scope.{Scope}
use Rattle.mz_resolution.specs.declared.relation.NamedRelation.{NamedRelation}
use Rattle.mz_resolution.specs.declared.relation.Relation.{Relation}
use Rattle.mz_resolution.specs.Columns.{columns_of}
use Rattle.mz_resolution.specs.Listings.{own_column}
use Rattle.mz_resolution.specs.Queries.{Names, small, narrow, queried, selected, united, most_columns}
use Rattle.mz_plan.specs.Items.{query_of}
use Rattle.mz_resolution.specs.Resolution.{item_relation, named, newest_first, query_in, without_number}
use Rattle.mz_resolution.specs.Steps.{◌>>=◌, each}
use Rattle.mz_resolve_laws.specs.Star.{select_star}
use Rattle.mz_resolve_laws.proofs.StepTools.{any_then_ok, choice_ok, guard_ok, then_ok}

-- ---- at most four tables

-- what a query gives names at most four
queried_few : (names : Names) (selects : List Select) → IfOk (queried names selects) (λ relation. relation.tables ≤ most_tables)
queried_few names [] = tt
queried_few names (select ∷ selects) =
    any_then_ok (selected names select) _ (λ relation. relation.tables ≤ most_tables)
    (λ first _. any_then_ok (each (selected names) selects) _ (λ relation. relation.tables ≤ most_tables) (λ others _.
    any_then_ok (united first others) _ (λ relation. relation.tables ≤ most_tables)
    (λ whole _. guard_ok (nat_le whole.tables most_tables) whole _ (λ relation. relation.tables ≤ most_tables) (λ few. leb-true whole.tables most_tables few))))

-- and so does what an item stands for
item_few : (scope : Scope) (names : Names) (item : Item) (kind : ItemKind)
    → IfOk (item_relation scope names item kind) (λ found. found.relation.tables ≤ most_tables)
item_few scope names item (Table columns) = omega arith
item_few scope names item (View columns query) =
    then_ok (queried names (query_of query)) _ (λ relation. relation.tables ≤ most_tables) (λ found. found.relation.tables ≤ most_tables)
    (queried_few names (query_of query)) (λ below few. few)
item_few scope names item (Index on below) = tt

-- and what a name stands for
named_few : (scope : Scope) (items : List Item) (name : List ℕ) → IfOk (named scope items name) (λ found. found.relation.tables ≤ most_tables)
named_few scope [] name = tt
named_few scope (item ∷ older) name =
    choice_ok (bytes_eq name item.name) _ _ (λ found. found.relation.tables ≤ most_tables) (λ _. item_few scope _ item item.kind)
    (λ _. named_few scope older name)

-- ---- all columns

-- the columns of one reference are its own
own_columns_of : (start owner : ℕ) (called : List ℕ) (within : ℕ) (columns : List Column)
    → map own_column (columns_of start owner called within columns ++ []) ≡ columns
own_columns_of start owner called within [] = refl
own_columns_of start owner called within (column ∷ columns) =
    ap (λ others. column ∷ others) (own_columns_of start owner called (within + 1) columns)

-- a choice whose test passes
if_true : {A : Type 0} (c : Bool) (x y : A) → c ≡ true → cond c x y ≡ x
if_true true x y h = refl
if_true false x y h = absurd cc

-- what is narrow and names few tables is small
small_too : (relation : Relation) → relation.tables ≤ most_tables → (narrow relation >>= λ first. united first [] >>= small) ≡ narrow relation
small_too relation few = by (nat_le (length relation.columns) most_columns)
  where
    lit : small relation ≡ Ok relation
    lit = if_true (nat_le relation.tables most_tables) (Ok relation) (Err (TooManyLeaves relation.tables)) (le-leb relation.tables most_tables few)

    by : (c : Bool) → (cond c (Ok relation) (Err (TooMany Columns most_columns)) >>= λ first. united first [] >>= small) ≡ cond c (Ok relation)
        (Err (TooMany Columns most_columns))
    by true = lit
    by false = refl

-- a relation seen whole is that relation
whole_same : (called : List ℕ) (relation : Relation) →
    record { columns = map own_column (columns_of 0 0 called 0 relation.columns ++ []); plan = relation.plan; tables = relation.tables + 0 }
    ≡ relation
whole_same called relation =
    let none : relation.tables + 0 ≡ relation.tables = omega arith in
    λ i. record { columns = own_columns_of 0 0 called 0 relation.columns i; plan = relation.plan; tables = none i }

-- the query of all columns of what a step gives
star_of_step : (step : Result Relation Refusal) (name : List ℕ) → IfOk step (λ relation. relation.tables ≤ most_tables)
    → queried (λ _. step) (select_star name ∷ []) ≡ (step >>= narrow)
star_of_step (Ok relation) name h = ap (λ r. narrow r >>= λ first. united first [] >>= small) (whole_same name relation)
    ∙ small_too relation h
star_of_step (Err refusal) name h = refl

-- the relation of a name is small
without_few : (step : Result NamedRelation Refusal) → IfOk step (λ found. found.relation.tables ≤ most_tables)
    → IfOk (without_number step) (λ relation. relation.tables ≤ most_tables)
without_few step h = then_ok step _ (λ found. found.relation.tables ≤ most_tables) (λ relation. relation.tables ≤ most_tables) h (λ found few. few)

-- the query of all columns gives what its name stands for, if that has no more columns than a result may have
pub star_same : (scope : Scope) (name : List ℕ)
    → query_in scope (select_star name ∷ []) ≡ (without_number (named scope (newest_first scope) name) >>= narrow)
star_same scope name = star_of_step (without_number (named scope (newest_first scope) name)) name
    (without_few _ (named_few scope (newest_first scope) name))

-- what is narrow passes
narrow_passes : (relation : Relation) → length relation.columns ≤ most_columns → narrow relation ≡ Ok relation
narrow_passes relation h =
    if_true (nat_le (length relation.columns) most_columns) (Ok relation) (Err (TooMany Columns most_columns)) (le-leb (length relation.columns) most_columns h)

-- so where it has, it is that
pub star_is : (scope : Scope) (name : List ℕ) → IfOk (named scope (newest_first scope) name) (λ found. length found.relation.columns ≤ most_columns
    → query_in scope (select_star name ∷ []) ≡ Ok found.relation)
star_is scope name = by (named scope (newest_first scope) name) (star_same scope name)
  where
    by : (step : Result NamedRelation Refusal) → query_in scope (select_star name ∷ []) ≡ (without_number step >>= narrow)
        → IfOk step (λ found. length found.relation.columns ≤ most_columns → query_in scope (select_star name ∷ []) ≡ Ok found.relation)
    by (Ok found) same = λ few. same ∙ narrow_passes found.relation few
    by (Err refusal) same = tt
