-- The items of a select fit the columns that they stand over, and give columns of their types.
use Rattle.std.proofs.Common.{◌≡◌, ◌∙◌, ◌+◌, ◌==◌, ◌||◌, refl, sym, subst, ap, ℕ, suc, Bool, true, false, List, [], ◌∷◌, ◌++◌, map, length, Option, None, Some, slice_get, filter_map, arith, length-append, append_assoc, codes}
use Rattle.std.specs.Prelude.{IfOk, ⊤}
use Rattle.std.specs.List.{AllByRecursion as Each, cons_option, list_any, position}
use Rattle.std.proofs.lemmas.Bool.{eqb-true}
use Rattle.std.proofs.lemmas.Option.{slice_get_within}
use Rattle.mz_statement.specs.declared.column.Column.{Column}
use Rattle.mz_statement.specs.declared.column.ColumnType.{ColumnType}
use Rattle.mz_statement.specs.declared.column.ColumnType.TheVariants as kind
use Rattle.mz_statement.specs.declared.item.Expression.{Expression}
use Rattle.mz_statement.specs.declared.item.Expression.TheVariants as expression
use Rattle.mz_statement.specs.declared.item.SelectItem.{SelectItem}
use Rattle.mz_statement.specs.declared.reference.ColumnName.{ColumnName}
use Rattle.mz_plan.specs.declared.aggregate.Aggregate.{Aggregate}
use Rattle.mz_plan.specs.declared.aggregate.Aggregate.TheVariants as aggregate
use Rattle.mz_plan.specs.declared.item.Item.{Item}
use Rattle.mz_plan.specs.declared.plan.Plan.{Plan, Group, Project}
use Rattle.mz_resolution.specs.declared.relation.ListedItem.{ListedItem}
use Rattle.mz_resolution.specs.Columns.{SeenColumn, Sight, meant}
use Rattle.mz_plan.specs.Types.{same_type}
use Rattle.mz_resolution.specs.Listings.{aggregates_in, behind, column_as, expressed, has_aggregate, is_aggregate, items_from, key_at, keys_before, listing, own_column, plain}
use Rattle.mz_resolution.specs.Queries.{grouped_plan, projected_plan}
use Rattle.mz_plan.specs.Types.{plan_types, types_of}
use Rattle.mz_plan.specs.WellFormed.{AggregateFits, IsTyped, IsWellFormed, PlacesFit}
use Rattle.mz_resolve_laws.proofs.CondTypes.{SeesTyped, meant_ok, same_type_same}
use Rattle.mz_plan.specs.PlanTypes.{aggregate_type}
use Rattle.mz_resolve_laws.proofs.FormRules.{form_of_group, form_of_project, types_of_group, types_of_project}
use Rattle.mz_resolve_laws.proofs.JoinTypes.{IsTypedPlan}
use Rattle.mz_resolve_laws.proofs.StepTools.{any_then_ok, both_ok, guard_ok, then_ok}
use Rattle.mz_resolve_laws.proofs.TypePlaces.{get_at, get_here, get_left, position_passes, some_there}

-- ---- one item

-- the types that plain items stand over: those of the keys, where there are keys
abbrev pub key_types : List ColumnType → Option (List ℕ) → List ColumnType
key_types types None = types
key_types types (Some keys) = filter_map (slice_get types) keys

-- keys are places of columns
abbrev pub KeysFit : List ColumnType → Option (List ℕ) → Type 0
KeysFit types None = ⊤
KeysFit types (Some keys) = PlacesFit types keys

-- an item is a column of the first types, or it is an aggregate that fits the second ones and stands at this place
abbrev pub IsFound : List ColumnType → List ColumnType → ℕ → ColumnType → ℕ → Option Aggregate → Type 0
IsFound keys types at of_type place None = IsTyped keys place of_type
IsFound keys types at of_type place (Some found) = (place ≡ at) × AggregateFits types found × (aggregate_type types found ≡ Some of_type)

-- the same of what an item is listed as
abbrev pub IsListed : List ColumnType → List ColumnType → ℕ → ListedItem → Type 0
IsListed keys types at listed = IsFound keys types at listed.column.kind listed.place listed.aggregate

-- a column among keys
key_at_ok : (types : List ColumnType) (keys : List ℕ) → PlacesFit types keys
    → (at : ℕ) (name : ColumnName) (column : Column) (seen : SeenColumn) → column.kind ≡ seen.kind → SeesTyped types seen
    → (found : Option ℕ) → position (λ key. key == seen.place) keys ≡ found
    → IfOk (key_at name column found) (IsListed (filter_map (slice_get types) keys) types at)
key_at_ok types keys fit at name column seen same h None e = tt
key_at_ok types keys fit at name column seen same h (Some place) e =
    let passes = position_passes (λ key. key == seen.place) keys place e in
    get_at types keys fit place passes.member passes.here ∙ (ap (slice_get types) (eqb-true passes.member seen.place passes.passes)
    ∙ (h ∙ ap Some (sym same)))

-- a plain column
plain_ok : (types : List ColumnType) (keys : Option (List ℕ)) → KeysFit types keys
    → (at : ℕ) (name : ColumnName) (column : Column) (seen : SeenColumn) → column.kind ≡ seen.kind → SeesTyped types seen
    → IfOk (plain keys name column seen) (IsListed (key_types types keys) types at)
plain_ok types None fit at name column seen same h = h ∙ ap Some (sym same)
plain_ok types (Some keys) fit at name column seen same h =
    key_at_ok types keys fit at name column seen same h (position (λ key. key == seen.place) keys) refl

-- an expression
expressed_ok : (types : List ColumnType) (sight : Sight) → Each (SeesTyped types) sight.columns → (keys : Option (List ℕ)) → KeysFit types keys
    → (before : ℕ) (alias : Option (List ℕ)) (says : Expression)
    → IfOk (expressed sight keys before alias says) (IsListed (key_types types keys) types (keys_before keys + before))
expressed_ok types sight h keys fit before alias (expression.Column name) =
    then_ok (meant sight name) _ (SeesTyped types) (IsListed (key_types types keys) types (keys_before keys + before))
    (meant_ok (SeesTyped types) sight h name)
    (λ seen here. plain_ok types keys fit (keys_before keys + before) name (column_as alias name.name seen.kind) seen refl here)
expressed_ok types sight h keys fit before alias expression.Count = (refl, tt, refl)
expressed_ok types sight h keys fit before alias (expression.Sum name) =
    then_ok (meant sight name) _ (SeesTyped types) (IsListed (key_types types keys) types (keys_before keys + before))
    (meant_ok (SeesTyped types) sight h name) (λ seen here.
    guard_ok (same_type seen.kind kind.Int) (behind keys before (column_as alias (codes "sum") kind.Wide) (aggregate.Sum seen.place)) _
    (IsListed (key_types types keys) types (keys_before keys + before))
    (λ same. (refl, here ∙ ap Some (same_type_same seen.kind kind.Int same), refl)))
expressed_ok types sight h keys fit before alias (expression.Min name) =
    then_ok (meant sight name) _ (SeesTyped types) (IsListed (key_types types keys) types (keys_before keys + before))
    (meant_ok (SeesTyped types) sight h name)
    (λ seen here. (refl, slice_get_within types seen.place seen.kind here, here))
expressed_ok types sight h keys fit before alias (expression.Max name) =
    then_ok (meant sight name) _ (SeesTyped types) (IsListed (key_types types keys) types (keys_before keys + before))
    (meant_ok (SeesTyped types) sight h name)
    (λ seen here. (refl, slice_get_within types seen.place seen.kind here, here))

-- what is no aggregate
abbrev pub IsPlain : ListedItem → Type 0
IsPlain listed = listed.aggregate ≡ None

-- a plain column is none
plain_plain : (keys : Option (List ℕ)) (name : ColumnName) (column : Column) (seen : SeenColumn)
    → IfOk (plain keys name column seen) IsPlain
plain_plain None name column seen = refl
plain_plain (Some keys) name column seen = by (position (λ key. key == seen.place) keys)
  where
    by : (found : Option ℕ) → IfOk (key_at name column found) IsPlain
    by None = tt
    by (Some place) = refl

-- and no other expression is plain
expressed_plain : (sight : Sight) (keys : Option (List ℕ)) (before : ℕ) (alias : Option (List ℕ)) (says : Expression)
    → is_aggregate says ≡ false → IfOk (expressed sight keys before alias says) IsPlain
expressed_plain sight keys before alias (expression.Column name) e =
    any_then_ok (meant sight name) _ IsPlain (λ seen _. plain_plain keys name (column_as alias name.name seen.kind) seen)
expressed_plain sight keys before alias expression.Count e = absurd cc
expressed_plain sight keys before alias (expression.Sum name) e = absurd cc
expressed_plain sight keys before alias (expression.Min name) e = absurd cc
expressed_plain sight keys before alias (expression.Max name) e = absurd cc

-- ---- all items

-- items in order, with so many aggregates before them
abbrev pub AreListed : List ColumnType → List ColumnType → ℕ → ℕ → List ListedItem → Type 0
AreListed keys types many before [] = ⊤
AreListed keys types many before (listed ∷ others) = IsListed keys types (many + before) listed
    × AreListed keys types many (before + aggregates_in listed.aggregate) others

-- items
items_ok : (types : List ColumnType) (sight : Sight) → Each (SeesTyped types) sight.columns → (keys : Option (List ℕ)) → KeysFit types keys
    → (before : ℕ) (items : List SelectItem)
    → IfOk (items_from sight keys before items) (AreListed (key_types types keys) types (keys_before keys) before)
items_ok types sight h keys fit before [] = tt
items_ok types sight h keys fit before (item ∷ items) =
    then_ok (expressed sight keys before item.alias item.expression) _ (IsListed (key_types types keys) types (keys_before keys + before))
    (AreListed (key_types types keys) types (keys_before keys) before)
    (expressed_ok types sight h keys fit before item.alias item.expression) (λ first here.
    then_ok (items_from sight keys (before + aggregates_in first.aggregate) items) _
    (AreListed (key_types types keys) types (keys_before keys) (before + aggregates_in first.aggregate))
    (AreListed (key_types types keys) types (keys_before keys) before)
    (items_ok types sight h keys fit (before + aggregates_in first.aggregate) items) (λ others there. (here, there)))

-- items of which none is an aggregate
items_plain : (sight : Sight) (keys : Option (List ℕ)) (before : ℕ) (items : List SelectItem)
    → list_any (λ item. is_aggregate item.expression) items ≡ false
    → IfOk (items_from sight keys before items) (Each IsPlain)
items_plain sight keys before [] e = tt
items_plain sight keys before (item ∷ items) e =
    let neither = or_neither (is_aggregate item.expression) (list_any (λ other. is_aggregate other.expression) items) e in
    then_ok (expressed sight keys before item.alias item.expression) _ IsPlain (Each IsPlain)
    (expressed_plain sight keys before item.alias item.expression neither.0) (λ first here.
    then_ok (items_from sight keys (before + aggregates_in first.aggregate) items) _ (Each IsPlain) (Each IsPlain)
    (items_plain sight keys (before + aggregates_in first.aggregate) items neither.1) (λ others there. (here, there)))
  where
    or_neither : (a b : Bool) → (a || b) ≡ false → (a ≡ false) × (b ≡ false)
    or_neither true b h = absurd cc
    or_neither false b h = (refl, h)

-- an item has its type at its place
abbrev pub StandsTyped : List ColumnType → ListedItem → Type 0
StandsTyped row listed = IsTyped row listed.place listed.column.kind

-- plain items over the row itself
plain_typed : (types : List ColumnType) (many before : ℕ) (found : List ListedItem) → AreListed types types many before found
    → Each IsPlain found → Each (StandsTyped types) found
plain_typed types many before [] h k = tt
plain_typed types many before (listed ∷ found) h k = (
  subst (IsFound types types (many + before) listed.column.kind listed.place) k.0 h.0,
  plain_typed types many
      (before + aggregates_in listed.aggregate) found h.1 k.1,
)

-- the aggregates of items
abbrev pub aggregates_of : List ListedItem → List Aggregate
aggregates_of found = filter_map (λ listed. listed.aggregate) found

-- items over keys and aggregates: the row so far has the keys in front, and ends where the next aggregate stands
grouped_typed : (keys types : List ColumnType) (many before : ℕ) (row : List ColumnType) (found : List ListedItem) → length row ≡ many + before
    → ((place : ℕ) (of_type : ColumnType) → IsTyped keys place of_type → IsTyped row place of_type) → AreListed keys types many before found
    → Each (StandsTyped (row ++ filter_map (aggregate_type types) (aggregates_of found))) found
grouped_typed keys types many before row [] long front h = tt
grouped_typed keys types many before row (listed ∷ found) long front h =
    by listed.aggregate h.0 h.1 (λ before' row' long' front' h'. grouped_typed keys types many before' row' found long' front' h')
  where
    rest : List ColumnType
    rest = filter_map (aggregate_type types) (aggregates_of found)

    With : Option ColumnType → Type 0
    With o = IsTyped (row ++ cons_option o rest) listed.place listed.column.kind × Each (StandsTyped (row ++ cons_option o rest)) found

    longer : length (row ++ (listed.column.kind ∷ [])) ≡ many + (before + 1)
    longer = omega (arith, length-append row (listed.column.kind ∷ []), long)

    regrouped : (row ++ (listed.column.kind ∷ [])) ++ rest ≡ row ++ (listed.column.kind ∷ rest)
    regrouped = simp append_assoc

    by : (one : Option Aggregate) → IsFound keys types (many + before) listed.column.kind listed.place one
        → AreListed keys types many (before + aggregates_in one) found
        → ((before' : ℕ) (row' : List ColumnType) → length row' ≡ many + before'
        → ((place : ℕ) (of_type : ColumnType) → IsTyped keys place of_type → IsTyped row' place of_type)
        → AreListed keys types many before' found
        → Each (StandsTyped (row' ++ filter_map (aggregate_type types) (aggregates_of found))) found)
        → IsTyped (row ++ filter_map (aggregate_type types) (cons_option one (aggregates_of found))) listed.place listed.column.kind
        × Each (StandsTyped (row ++ filter_map (aggregate_type types) (cons_option one (aggregates_of found)))) found
    by None here later k =
        let none : before + 0 ≡ before = omega arith in (
          get_left row (filter_map (aggregate_type types) (aggregates_of found)) listed.place listed.column.kind
              (front listed.place listed.column.kind here),
          k before row long front (subst (λ n. AreListed keys types many n found) none later),
        )
    by (Some one) here later k = subst With (sym here.2) (
      ap (slice_get (row ++ (listed.column.kind ∷ rest))) (here.0 ∙ sym long) ∙ get_here row rest listed.column.kind,
      subst (λ whole. Each (StandsTyped whole) found) regrouped
          (k (before + 1) (row ++ (listed.column.kind ∷ [])) longer
          (λ place of_type e. get_left row (listed.column.kind ∷ []) place of_type (front place of_type e)) later),
    )

-- the aggregates of items fit
aggregates_fit : (keys types : List ColumnType) (many before : ℕ) (found : List ListedItem) → AreListed keys types many before found
    → Each (AggregateFits types) (aggregates_of found)
aggregates_fit keys types many before [] h = tt
aggregates_fit keys types many before (listed ∷ found) h =
    by listed.aggregate h.0 (aggregates_fit keys types many (before + aggregates_in listed.aggregate) found h.1)
  where
    by : (one : Option Aggregate) → IsFound keys types (many + before) listed.column.kind listed.place one
        → Each (AggregateFits types) (aggregates_of found)
        → Each (AggregateFits types) (cons_option one (aggregates_of found))
    by None here k = k
    by (Some one) here k = (here.1, k)

-- ---- a select's items over a plan

-- the places of items are there
places_fit : (row : List ColumnType) (found : List ListedItem) → Each (StandsTyped row) found → PlacesFit row (map (λ item. item.place) found)
places_fit row [] h = tt
places_fit row (listed ∷ found) h = (slice_get_within row listed.place listed.column.kind h.0, places_fit row found h.1)

-- and the types there are theirs
places_types : (row : List ColumnType) (found : List ListedItem) → Each (StandsTyped row) found
    → filter_map (slice_get row) (map (λ item. item.place) found) ≡ types_of (map (λ item. item.column) found)
places_types row [] h = refl
places_types row (listed ∷ found) h =
    ap (λ o. cons_option o (filter_map (slice_get row) (map (λ item. item.place) found))) h.0
    ∙ ap (λ types. listed.column.kind ∷ types) (places_types row found h.1)

-- a projection to items
project_typed : (items : List Item) (plan : Plan) (found : List ListedItem) → IsWellFormed items plan
    → Each (StandsTyped (plan_types items plan)) found
    → IsTypedPlan items (types_of (map (λ item. item.column) found)) (Project plan (map (λ item. item.place) found))
project_typed items plan found h k = record {
  formed = form_of_project items plan (map (λ item. item.place) found) h (places_fit (plan_types items plan) found k);
  types = types_of_project items plan (map (λ item. item.place) found) ∙ places_types (plan_types items plan) found k;
}

-- the types of keys are as many as the keys
keys_long : (types : List ColumnType) (keys : List ℕ) → PlacesFit types keys → length (filter_map (slice_get types) keys) ≡ length keys
keys_long types [] h = refl
keys_long types (key ∷ keys) h =
    let found = some_there types key h.0 in
    ap (λ o. length (cons_option o (filter_map (slice_get types) keys))) found.1 ∙ ap suc (keys_long types keys h.1)

-- a grouping, and a projection to items
group_typed : (items : List Item) (plan : Plan) (keys : List ℕ) (found : List ListedItem) → IsWellFormed items plan
    → PlacesFit (plan_types items plan) keys
    → AreListed (filter_map (slice_get (plan_types items plan)) keys) (plan_types items plan) (length keys) 0 found
    → IsTypedPlan items (types_of (map (λ item. item.column) found))
    (Project (Group plan keys (aggregates_of found)) (map (λ item. item.place) found))
group_typed items plan keys found h fit k =
    project_typed items (Group plan keys (aggregates_of found)) found
    (form_of_group items plan keys (aggregates_of found) h fit
    (aggregates_fit (filter_map (slice_get types) keys) types (length keys) 0 found k))
    (subst (λ row. Each (StandsTyped row) found) (sym (types_of_group items plan keys (aggregates_of found)))
    (grouped_typed (filter_map (slice_get types) keys) types (length keys) 0 (filter_map (slice_get types) keys) found long
    (λ place of_type e. e) k))
  where
    types : List ColumnType
    types = plan_types items plan

    long : length (filter_map (slice_get types) keys) ≡ length keys + 0
    long = omega (arith, keys_long types keys fit)

-- the items of a select over a plan whose columns are those that are seen
pub listing_ok : (items : List Item) (plan : Plan) (sight : Sight) → IsWellFormed items plan
    → Each (SeesTyped (plan_types items plan)) sight.columns
    → types_of (map own_column sight.columns) ≡ plan_types items plan → (keys : Option (List ℕ)) → KeysFit (plan_types items plan) keys
    → (listed : Option (List SelectItem))
    → (keys ≡ None → has_aggregate listed ≡ false)
    → IfOk (listing sight keys listed) (λ found. IsTypedPlan items (types_of found.columns)
    (projected_plan found.places (grouped_plan keys found.aggregates plan)))
listing_ok items plan sight h seen star None fit None none = record { formed = h; types = sym star }
listing_ok items plan sight h seen star (Some keys) fit None none = tt
listing_ok items plan sight h seen star None fit (Some listed) none =
    then_ok (items_from sight None 0 listed) _ (λ found. AreListed (plan_types items plan) (plan_types items plan) 0 0 found
    × Each IsPlain found)
    (λ found. IsTypedPlan items (types_of found.columns) (projected_plan found.places (grouped_plan None found.aggregates plan)))
    (both_ok (items_from sight None 0 listed) (AreListed (plan_types items plan) (plan_types items plan) 0 0) (Each IsPlain)
    (items_ok (plan_types items plan) sight seen None tt 0 listed) (items_plain sight None 0 listed (none refl)))
    (λ found both. project_typed items plan found h (plain_typed (plan_types items plan) 0 0 found both.0 both.1))
listing_ok items plan sight h seen star (Some keys) fit (Some listed) none =
    then_ok (items_from sight (Some keys) 0 listed) _ (AreListed (filter_map (slice_get (plan_types items plan)) keys)
    (plan_types items plan) (length keys) 0)
    (λ found. IsTypedPlan items (types_of found.columns) (projected_plan found.places (grouped_plan (Some keys) found.aggregates plan)))
    (items_ok (plan_types items plan) sight seen (Some keys) fit 0 listed)
    (λ found are. group_typed items plan keys found h fit are)
