-- The plan of a query is well formed and gives columns of the query's types, where what its names stand for is so.
use Rattle.std.proofs.Common.{◌≡◌, ◌∙◌, ◌+◌, ◌<◌, ◌||◌, refl, sym, subst, ap, ℕ, Bool, true, false, cond, List, [], ◌∷◌, length, Option, None, Some, slice_get, arith, inl, inr}
use Rattle.std.specs.Prelude.{IfOk}
use Rattle.std.specs.List.{AllByRecursion as Each}
use Rattle.std.proofs.lemmas.Option.{slice_get_within}
use Rattle.std.proofs.lemmas.List.{length-map}
use Rattle.mz_statement.specs.declared.column.Column.{Column}
use Rattle.mz_statement.specs.declared.column.ColumnType.{ColumnType}
use Rattle.mz_statement.specs.declared.query.Select.{Select}
use Rattle.mz_statement.specs.declared.reference.ColumnName.{ColumnName}
use Rattle.mz_statement.specs.declared.reference.Reference.{Reference}
use Rattle.mz_plan.specs.declared.condition.Cond.{Cond}
use Rattle.mz_plan.specs.declared.item.Item.{Item}
use Rattle.mz_plan.specs.declared.plan.Plan.{Plan, Union}
use Rattle.mz_resolution.specs.declared.relation.Referred.{Referred}
use Rattle.mz_resolution.specs.declared.relation.Relation.{Relation}
use Rattle.mz_resolution.specs.Columns.{SeenColumn, Sight, meant, sight_of}
use Rattle.mz_plan.specs.Types.{same_type}
use Rattle.mz_resolution.specs.Conditions.{condition, equalities}
use Rattle.mz_resolution.specs.Listings.{has_aggregate, has_group, keys_of, listing}
use Rattle.mz_resolution.specs.Queries.{Names, distinct_plan, filtered_plan, grouped_plan, joined_plan, place_meant, projected_plan, queried, referred, same_types, select_of, select_over, selected, united}
use Rattle.mz_resolution.specs.Steps.{each}
use Rattle.mz_plan.specs.Types.{types_of}
use Rattle.mz_plan.specs.WellFormed.{PlacesFit, SomeCondFits}
use Rattle.mz_resolve_laws.specs.WellFormed.{IsTypedRelation}
use Rattle.mz_resolve_laws.proofs.CondTypes.{SeesTyped, condition_ok, meant_ok, same_type_same}
use Rattle.mz_resolve_laws.proofs.FormRules.{form_of_distinct, form_of_filter, form_of_union, types_of_distinct, types_of_filter, types_of_union}
use Rattle.mz_resolve_laws.proofs.JoinTypes.{AreEqualities, IsSeenAt, IsSeenFrom, IsTypedPlan, columns_seen, equalities_ok, joined_typed, row_types, seen_from_typed, star_types}
use Rattle.mz_resolve_laws.proofs.ListingTypes.{KeysFit, listing_ok}
use Rattle.mz_resolve_laws.proofs.StepTools.{choice_ok, each_many_ok, each_ok, guard_ok, then_ok}
use Rattle.mz_resolve_laws.proofs.TypePlaces.{each_weaker}
use Rattle.std.proofs.lemmas.Bool.{and_parts}

-- ---- operators over a typed plan

-- a condition
filtered_typed : (items : List Item) (row : List ColumnType) (plan : Plan) → IsTypedPlan items row plan → (cond : Option Cond)
    → SomeCondFits row cond → IsTypedPlan items row (filtered_plan cond plan)
filtered_typed items row plan h None fits = h
filtered_typed items row plan h (Some cond) fits = record {
  formed = form_of_filter items plan cond h.formed (subst (λ types. SomeCondFits types (Some cond)) (sym h.types) fits);
  types = types_of_filter items plan cond ∙ h.types;
}

-- DISTINCT
distinct_typed : (items : List Item) (row : List ColumnType) (plan : Plan) → IsTypedPlan items row plan → (distinct : Bool)
    → IsTypedPlan items row (distinct_plan distinct plan)
distinct_typed items row plan h false = h
distinct_typed items row plan h true =
    record { formed = form_of_distinct items plan h.formed; types = types_of_distinct items plan ∙ h.types }

-- ---- keys

-- the places of names
places_ok : (row : List ColumnType) (sight : Sight) → Each (SeesTyped row) sight.columns → (names : List ColumnName)
    → IfOk (each (place_meant sight) names) (PlacesFit row)
places_ok row sight h names = each_ok (place_meant sight) (λ place. place < length row) one names
  where
    one : (column : ColumnName) → IfOk (place_meant sight column) (λ place. place < length row)
    one column = then_ok (meant sight column) _ (SeesTyped row) (λ place. place < length row) (meant_ok (SeesTyped row) sight h column)
        (λ seen here. slice_get_within row seen.place seen.kind here)

-- the keys are among them
keys_fit : (row : List ColumnType) (select : Select) (places : List ℕ) → PlacesFit row places → KeysFit row (keys_of select places)
keys_fit row select places h = by (has_group select.group || has_aggregate select.items)
  where
    by : (c : Bool) → KeysFit row (cond c (Some places) None)
    by true = h
    by false = tt

-- with no keys there is no aggregate
no_aggregate : (select : Select) (places : List ℕ) → keys_of select places ≡ None → has_aggregate select.items ≡ false
no_aggregate select places h = by (has_group select.group) (has_aggregate select.items) h
  where
    by : (a b : Bool) → cond (a || b) (Some places) None ≡ None → b ≡ false
    by true b e = absurd cc
    by false true e = absurd cc
    by false false e = refl

-- ---- a select

-- what is seen at first
first_seen : (first : Referred) (others : List Referred) (seen : SeenColumn) → IsSeenFrom 0 0 (first ∷ others) seen
    → IsSeenAt (types_of first.relation.columns) 1 others seen
first_seen first others seen (inl h) =
    let none : 0 + seen.within ≡ seen.within = omega arith in
    inl (omega (arith, h.owned), ap (slice_get (types_of first.relation.columns)) (h.placed ∙ none) ∙ h.typed)
first_seen first others seen (inr h) =
    let long : 0 + length first.relation.columns ≡ length (types_of first.relation.columns) =
    omega (arith, length-map first.relation.columns (λ column. column.kind)) in
    inr (subst (λ n. IsSeenFrom n 1 others seen) long h)

-- each column that is seen has its type in the row of all
row_seen : (references : List Referred) → Each (SeesTyped (row_types references)) (sight_of references).columns
row_seen references = each_weaker (IsSeenFrom 0 0 references) (SeesTyped (row_types references)) (seen_from_typed [] 0 0 refl references) _
    (columns_seen 0 0 references)

-- the items of a select over a plan of all columns that are seen
row_listing : (items : List Item) (references : List Referred) (plan : Plan) → IsTypedPlan items (row_types references) plan
    → (select : Select) (places : List ℕ) → PlacesFit (row_types references) places
    → IfOk (listing (sight_of references) (keys_of select places) select.items)
    (λ found. IsTypedPlan items (types_of found.columns) (projected_plan found.places
    (grouped_plan (keys_of select places) found.aggregates plan)))
row_listing items references plan h select places fit =
    listing_ok items plan (sight_of references) h.formed (subst (λ row. Each (SeesTyped row) (sight_of references).columns) (sym h.types)
    (row_seen references))
    (star_types 0 0 references ∙ sym h.types) (keys_of select places)
    (subst (λ row. KeysFit row (keys_of select places)) (sym h.types) (keys_fit (row_types references) select places fit))
    select.items (no_aggregate select places)

-- a select over its references
over_typed : (items : List Item) (first : Referred) (others : List Referred) (select : Select) → IsTypedRelation items first.relation
    → Each (λ r. IsTypedRelation items r.relation) others
    → length others ≡ length select.joins → IfOk (select_over (sight_of (first ∷ others)) first others select) (IsTypedRelation items)
over_typed items first others select h rest many =
    then_ok (equalities sight 1 select.joins) _ (AreEqualities sees 1 (length select.joins)) (IsTypedRelation items)
    (equalities_ok sees sight (columns_seen 0 0 references) 1 select.joins) (λ pairs are.
    then_ok (condition sight select.test) _ (SomeCondFits row) (IsTypedRelation items)
    (condition_ok row sight (row_seen references) select.test) (λ cond fits.
    then_ok (each (place_meant sight) select.group) _ (PlacesFit row) (IsTypedRelation items)
    (places_ok row sight (row_seen references) select.group) (λ places there.
    then_ok (listing sight (keys_of select places) select.items) _
    (λ found. IsTypedPlan items (types_of found.columns) (projected_plan found.places
    (grouped_plan (keys_of select places) found.aggregates (below pairs cond)))) (IsTypedRelation items)
    (row_listing items references (below pairs cond) (below_typed pairs are cond fits) select places there) (λ found typed.
    guard_ok _ (select_of first others select pairs cond (keys_of select places) found) _ (IsTypedRelation items)
    (λ _. whole (distinct_typed items (types_of found.columns) _ typed select.distinct))))))
  where
    references : List Referred
    references = first ∷ others

    sight : Sight
    sight = sight_of (first ∷ others)

    row : List ColumnType
    row = row_types (first ∷ others)

    sees : SeenColumn → Type 0
    sees = IsSeenFrom 0 0 (first ∷ others)

    below : List (List (ℕ × ℕ)) → Option Cond → Plan
    below pairs cond = filtered_plan cond (joined_plan first.relation.plan others pairs)

    first_typed : IsTypedPlan items (types_of first.relation.columns) first.relation.plan
    first_typed = record { formed = h.formed; types = h.types }

    below_typed : (pairs : List (List (ℕ × ℕ))) → AreEqualities (IsSeenFrom 0 0 (first ∷ others)) 1 (length select.joins) pairs
        → (cond : Option Cond) → SomeCondFits (row_types (first ∷ others)) cond
        → IsTypedPlan items (row_types (first ∷ others)) (filtered_plan cond (joined_plan first.relation.plan others pairs))
    below_typed pairs are cond fits =
        filtered_typed items (row_types (first ∷ others)) (joined_plan first.relation.plan others pairs)
        (joined_typed items (IsSeenFrom 0 0 (first ∷ others)) first.relation.plan
        (types_of first.relation.columns) 1 others pairs first_typed rest are.are (are.many ∙ sym many) (first_seen first others))
        cond fits

    whole : {found : Relation} → IsTypedPlan items (types_of found.columns) found.plan → IsTypedRelation items found
    whole typed = record { formed = typed.formed; types = typed.types }

-- what names stand for
abbrev pub NamesTyped : List Item → Names → Type 0
NamesTyped items names = (name : List ℕ) → IfOk (names name) (IsTypedRelation items)

-- a reference
referred_typed : (items : List Item) (names : Names) → NamesTyped items names → (reference : Reference)
    → IfOk (referred names reference) (λ r. IsTypedRelation items r.relation)
referred_typed items names h reference =
    then_ok (names reference.name) _ (IsTypedRelation items) (λ r. IsTypedRelation items r.relation) (h reference.name)
    (λ relation typed. typed)

-- a select
selected_typed : (items : List Item) (names : Names) → NamesTyped items names → (select : Select)
    → IfOk (selected names select) (IsTypedRelation items)
selected_typed items names h select =
    then_ok (referred names select.first) _ (λ r. IsTypedRelation items r.relation) (IsTypedRelation items)
    (referred_typed items names h select.first) (λ first here.
    then_ok (each (λ join. referred names join.reference) select.joins) _
    (λ others. Each (λ r. IsTypedRelation items r.relation) others × (length others ≡ length select.joins)) (IsTypedRelation items)
    (each_many_ok (λ join. referred names join.reference) (λ r. IsTypedRelation items r.relation)
    (λ join. referred_typed items names h join.reference) select.joins)
    (λ others there. over_typed items first others select here there.0 there.1))

-- ---- a query

-- columns that are tested as of the same types are
same_types_same : (ones others : List Column) → same_types ones others ≡ true → types_of ones ≡ types_of others
same_types_same [] [] h = refl
same_types_same [] (other ∷ others) h = absurd cc
same_types_same (one ∷ ones) [] h = absurd cc
same_types_same (one ∷ ones) (other ∷ others) h =
    let parts = and_parts (same_type one.kind other.kind) (same_types ones others) h in
    λ i. same_type_same one.kind other.kind parts.0 i ∷ same_types_same ones others parts.1 i

-- UNION ALL
united_typed : (items : List Item) (whole : Relation) (others : List Relation) → IsTypedRelation items whole
    → Each (IsTypedRelation items) others → IfOk (united whole others) (IsTypedRelation items)
united_typed items whole [] h rest = h
united_typed items whole (next ∷ others) h rest =
    choice_ok (same_types whole.columns next.columns) _ _ (IsTypedRelation items)
    (λ same. united_typed items (record { columns = whole.columns; plan = Union whole.plan next.plan; tables = whole.tables + next.tables })
    others (both same) rest.1)
    (λ _. tt)
  where
    both : same_types whole.columns next.columns ≡ true
        → IsTypedRelation items (record { columns = whole.columns; plan = Union whole.plan next.plan; tables = whole.tables + next.tables })
    both same = record {
      formed = form_of_union items whole.plan next.plan h.formed rest.0.formed (h.types
          ∙ (same_types_same whole.columns next.columns same ∙ sym rest.0.types));
      types = types_of_union items whole.plan next.plan ∙ h.types;
    }

-- a query
pub queried_typed : (items : List Item) (names : Names) → NamesTyped items names → (selects : List Select)
    → IfOk (queried names selects) (IsTypedRelation items)
queried_typed items names h [] = tt
queried_typed items names h (select ∷ selects) =
    then_ok (selected names select) _ (IsTypedRelation items) (IsTypedRelation items) (selected_typed items names h select) (λ first here.
    then_ok (each (selected names) selects) _ (Each (IsTypedRelation items)) (IsTypedRelation items)
    (each_ok (selected names) (IsTypedRelation items) (selected_typed items names h) selects) (λ others there.
    then_ok (united first others) _ (IsTypedRelation items) (IsTypedRelation items) (united_typed items first others here there)
    (λ whole typed. guard_ok _ whole _ (IsTypedRelation items) (λ _. typed))))
