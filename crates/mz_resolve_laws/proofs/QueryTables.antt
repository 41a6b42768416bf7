-- A query's plan reads at most as many tables as the query names, where what its names stand for does.
use Rattle.std.proofs.Common.{◌+◌, ◌≤◌, ℕ, List, [], ◌∷◌, Option, arith, nat_le}
use Rattle.std.specs.Prelude.{IfOk}
use Rattle.std.specs.List.{AllByRecursion as Each}
use Rattle.std.proofs.lemmas.Bool.{leb-true}
use Rattle.mz_statement.specs.declared.query.Select.{Select}
use Rattle.mz_statement.specs.declared.reference.Reference.{Reference}
use Rattle.mz_plan.specs.Small.{tables_read, most_tables}
use Rattle.mz_plan.specs.declared.condition.Cond.{Cond}
use Rattle.mz_plan.specs.declared.plan.Plan.{Plan, Join, Union}
use Rattle.mz_resolution.specs.declared.relation.Listing.{Listing}
use Rattle.mz_resolution.specs.declared.relation.Referred.{Referred}
use Rattle.mz_resolution.specs.declared.relation.Relation.{Relation}
use Rattle.mz_resolution.specs.Columns.{Sight, sight_of}
use Rattle.mz_resolution.specs.Conditions.{condition, equalities}
use Rattle.mz_resolution.specs.Listings.{keys_of, listing}
use Rattle.mz_resolution.specs.Queries.{Names, filtered_plan, grouped_plan, joined_plan, place_meant, projected_plan, queried, referred, same_types, select_of, select_over, selected, tables_of, united}
use Rattle.mz_resolution.specs.Steps.{each}
use Rattle.mz_resolve_laws.proofs.StepTools.{any_then_ok, each_ok, guard_ok, choice_ok, then_ok}
use Rattle.mz_resolve_laws.proofs.TablesRead.{read_by_join, read_by_union, read_distinct, read_filtered, read_grouped, read_projected}

-- a relation reads at most as many tables as it names
abbrev pub IsFew : (ℕ → ℕ) → Relation → Type 0
IsFew reads relation = tables_read reads relation.plan ≤ relation.tables

-- so does what names stand for
abbrev pub NamesFew : (ℕ → ℕ) → Names → Type 0
NamesFew reads names = (name : List ℕ) → IfOk (names name) (IsFew reads)

-- a reference
referred_few : (reads : ℕ → ℕ) (names : Names) → NamesFew reads names → (reference : Reference)
    → IfOk (referred names reference) (λ r. IsFew reads r.relation)
referred_few reads names h reference =
    then_ok (names reference.name) _ (IsFew reads) (λ r. IsFew reads r.relation) (h reference.name) (λ relation few. few)

-- joins
joined_few : (reads : ℕ → ℕ) (plan : Plan) (others : List Referred) (pairs : List (List (ℕ × ℕ)))
    → Each (λ r. IsFew reads r.relation) others
    → tables_read reads (joined_plan plan others pairs) ≤ tables_read reads plan + tables_of others
joined_few reads plan [] pairs k = omega arith
joined_few reads plan (next ∷ others) [] k = omega arith
joined_few reads plan (next ∷ others) (first ∷ pairs) k =
    let rest = joined_few reads (Join plan next.relation.plan first) others pairs k.1 in
    omega (arith, rest, read_by_join reads plan next.relation.plan first, k.0)

-- a select once each part is found
select_few : (reads : ℕ → ℕ) (first : Referred) (others : List Referred) (select : Select) (pairs : List (List (ℕ × ℕ)))
    (cond : Option Cond) (keys : Option (List ℕ)) (found : Listing) → IsFew reads first.relation
    → Each (λ r. IsFew reads r.relation) others → IsFew reads (select_of first others select pairs cond keys found)
select_few reads first others select pairs cond keys found h k =
    omega (
      arith,
      read_distinct reads select.distinct (projected_plan found.places (grouped_plan keys found.aggregates below)),
      read_projected reads found.places (grouped_plan keys found.aggregates below),
      read_grouped reads keys found.aggregates below,
      read_filtered reads cond (joined_plan first.relation.plan others pairs),
      joined_few reads first.relation.plan others pairs k,
      h,
    )
  where
    below : Plan
    below = filtered_plan cond (joined_plan first.relation.plan others pairs)

-- a select over its references
over_few : (reads : ℕ → ℕ) (sight : Sight) (first : Referred) (others : List Referred) (select : Select) → IsFew reads first.relation
    → Each (λ r. IsFew reads r.relation) others → IfOk (select_over sight first others select) (IsFew reads)
over_few reads sight first others select h k =
    any_then_ok (equalities sight 1 select.joins) _ (IsFew reads) (λ pairs _.
    any_then_ok (condition sight select.test) _ (IsFew reads) (λ cond _.
    any_then_ok (each (place_meant sight) select.group) _ (IsFew reads) (λ places _.
    any_then_ok (listing sight (keys_of select places) select.items) _ (IsFew reads) (λ found _.
    guard_ok _ (select_of first others select pairs cond (keys_of select places) found) _ (IsFew reads) (λ _.
    select_few reads first others select pairs cond (keys_of select places) found h k)))))

-- a select
selected_few : (reads : ℕ → ℕ) (names : Names) → NamesFew reads names → (select : Select) → IfOk (selected names select) (IsFew reads)
selected_few reads names h select =
    then_ok (referred names select.first) _ (λ r. IsFew reads r.relation) (IsFew reads) (referred_few reads names h select.first)
    (λ first here.
    then_ok (each (λ join. referred names join.reference) select.joins) _ (Each (λ r. IsFew reads r.relation)) (IsFew reads)
    (each_ok (λ join. referred names join.reference) (λ r. IsFew reads r.relation)
    (λ join. referred_few reads names h join.reference) select.joins)
    (λ others there. over_few reads (sight_of (first ∷ others)) first others select here there))

-- UNION ALL
united_few : (reads : ℕ → ℕ) (whole : Relation) (others : List Relation) → IsFew reads whole → Each (IsFew reads) others
    → IfOk (united whole others) (IsFew reads)
united_few reads whole [] h k = h
united_few reads whole (next ∷ others) h k =
    choice_ok (same_types whole.columns next.columns) _ _ (IsFew reads)
    (λ _. united_few reads
    (record { columns = whole.columns; plan = Union whole.plan next.plan; tables = whole.tables + next.tables })
    others (omega (arith, read_by_union reads whole.plan next.plan, h, k.0)) k.1) (λ _. tt)

-- a relation reads few tables, and names at most four
pub record IsNarrow (reads : ℕ → ℕ) (relation : Relation) : Type 0 where
  pub few : IsFew reads relation
  pub most : relation.tables ≤ most_tables

-- a query
pub queried_few : (reads : ℕ → ℕ) (names : Names) → NamesFew reads names → (selects : List Select)
    → IfOk (queried names selects) (IsNarrow reads)
queried_few reads names h [] = tt
queried_few reads names h (select ∷ selects) =
    then_ok (selected names select) _ (IsFew reads) (IsNarrow reads) (selected_few reads names h select) (λ first here.
    then_ok (each (selected names) selects) _ (Each (IsFew reads)) (IsNarrow reads)
    (each_ok (selected names) (IsFew reads) (selected_few reads names h) selects) (λ others there.
    then_ok (united first others) _ (IsFew reads) (IsNarrow reads) (united_few reads first others here there)
    (λ whole few. guard_ok (nat_le whole.tables most_tables) whole _ (IsNarrow reads)
    (λ test. record { few = few; most = leb-true whole.tables most_tables test }))))
