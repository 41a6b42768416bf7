-- The columns that a select sees are those of its references, and its joins fit them.
use Rattle.std.proofs.Common.{◌≡◌, ◌∙◌, ◌+◌, ◌<◌, ◌≤◌, ◌==◌, ◌&&◌, refl, sym, subst, ap, ℕ, suc, true, List, [], ◌∷◌, ◌++◌, map, length, Some, slice_get, nat_lt, arith, append_assoc, length-append, inl, inr}
use Rattle.std.specs.Prelude.{IfOk, ◌⊎◌, ⊤}
use Rattle.std.specs.List.{AllByRecursion as Each}
use Rattle.std.proofs.lemmas.Bool.{and_parts, eqb-true, ltb-true}
use Rattle.std.proofs.lemmas.List.{append-nil, length-map}
use Rattle.mz_statement.specs.declared.column.Column.{Column}
use Rattle.mz_statement.specs.declared.column.ColumnType.{ColumnType}
use Rattle.mz_statement.specs.declared.reference.ColumnPair.{ColumnPair}
use Rattle.mz_statement.specs.declared.reference.Join.{Join}
use Rattle.mz_plan.specs.declared.item.Item.{Item}
use Rattle.mz_plan.specs.declared.plan.Plan as plans
use Rattle.mz_plan.specs.declared.plan.Plan.{Plan}
use Rattle.mz_resolution.specs.declared.relation.Referred.{Referred}
use Rattle.mz_resolution.specs.Columns.{SeenColumn, Sight, columns_from, columns_of, meant}
use Rattle.mz_plan.specs.Types.{same_type}
use Rattle.mz_resolution.specs.Conditions.{are_sides, equalities, equality}
use Rattle.mz_resolution.specs.Listings.{own_column}
use Rattle.mz_resolution.specs.Queries.{joined_plan}
use Rattle.mz_resolution.specs.Steps.{each}
use Rattle.mz_plan.specs.Types.{plan_types, types_of}
use Rattle.mz_plan.specs.WellFormed.{AreOfOneType, IsTyped, IsWellFormed, PairsFit}
use Rattle.mz_resolve_laws.specs.WellFormed.{IsTypedRelation}
use Rattle.mz_resolve_laws.proofs.CondTypes.{meant_ok, same_type_same}
use Rattle.mz_resolve_laws.proofs.FormRules.{form_of_join, types_of_join}
use Rattle.mz_resolve_laws.proofs.StepTools.{choice_ok, each_ok, guard_ok, then_ok}
use Rattle.mz_resolve_laws.proofs.TypePlaces.{each_append, each_weaker, get_left, get_right}

-- the types of all columns of references, side by side
abbrev pub row_types : List Referred → List ColumnType
row_types [] = []
row_types (first ∷ others) = types_of first.relation.columns ++ row_types others

-- ---- what is seen

-- a column is one of the reference of this number, whose columns have these types and begin at this place
pub record IsSeenIn (start owner : ℕ) (types : List ColumnType) (seen : SeenColumn) : Type 0 where
  pub owned : seen.owner ≡ owner
  pub placed : seen.place ≡ start + seen.within
  pub typed : IsTyped types seen.within seen.kind

-- a column is one of these references, the first of which has this number and begins at this place
abbrev pub IsSeenFrom : ℕ → ℕ → List Referred → SeenColumn → Type 0
IsSeenFrom start owner [] seen = ⊥
IsSeenFrom start owner (first ∷ others) seen =
    IsSeenIn start owner (types_of first.relation.columns) seen ⊎ IsSeenFrom (start + length first.relation.columns) (owner + 1) others seen

-- the columns of a reference, from some column on
pub columns_of_seen : (start owner : ℕ) (called : List ℕ) (types : List ColumnType) (within : ℕ) (columns : List Column)
    → ((k : ℕ) (of_type : ColumnType) → IsTyped (types_of columns) k of_type → IsTyped types (within + k) of_type)
    → Each (IsSeenIn start owner types) (columns_of start owner called within columns)
columns_of_seen start owner called types within [] h = tt
columns_of_seen start owner called types within (column ∷ columns) h = (
  record { owned = refl; placed = refl; typed = here },
  columns_of_seen start owner called types (within + 1) columns (λ k of_type e. later k of_type (h (suc k) of_type e)),
)
  where
    here : IsTyped types within column.kind
    here = let none : within + 0 ≡ within = omega arith in subst (λ place. IsTyped types place column.kind) none (h 0 column.kind refl)

    later : (k : ℕ) (of_type : ColumnType) → IsTyped types (within + suc k) of_type → IsTyped types (within + 1 + k) of_type
    later k of_type e = let next : within + suc k ≡ within + 1 + k = omega arith in subst (λ place. IsTyped types place of_type) next e

-- all columns of references
pub columns_seen : (start owner : ℕ) (references : List Referred)
    → Each (IsSeenFrom start owner references) (columns_from start owner references)
columns_seen start owner [] = tt
columns_seen start owner (first ∷ others) =
    each_append (IsSeenFrom start owner (first ∷ others)) (columns_of start owner first.called 0 first.relation.columns) _
    (each_weaker _ _ (λ seen h. inl h) _ (columns_of_seen start owner first.called
    (types_of first.relation.columns) 0 first.relation.columns whole))
    (each_weaker _ _ (λ seen h. inr h) _ (columns_seen (start + length first.relation.columns) (owner + 1) others))
  where
    whole : (k : ℕ) (of_type : ColumnType) → IsTyped (types_of first.relation.columns) k of_type
        → IsTyped (types_of first.relation.columns) (0 + k) of_type
    whole k of_type e = let none : k ≡ 0 + k =
        omega arith in subst (λ place. IsTyped (types_of first.relation.columns) place of_type) none e

-- the types of what a select sees are those of its references
own_types : (start owner : ℕ) (called : List ℕ) (within : ℕ) (columns : List Column)
    → types_of (map own_column (columns_of start owner called within columns)) ≡ types_of columns
own_types start owner called within [] = refl
own_types start owner called within (column ∷ columns) =
    ap (λ types. column.kind ∷ types) (own_types start owner called (within + 1) columns)

-- side by side
own_append : (xs ys : List SeenColumn) → types_of (map own_column (xs ++ ys)) ≡ types_of (map own_column xs) ++ types_of (map own_column ys)
own_append [] ys = refl
own_append (x ∷ xs) ys = ap (λ types. x.kind ∷ types) (own_append xs ys)

-- of all
pub star_types : (start owner : ℕ) (references : List Referred)
    → types_of (map own_column (columns_from start owner references)) ≡ row_types references
star_types start owner [] = refl
star_types start owner (first ∷ others) =
    own_append (columns_of start owner first.called 0 first.relation.columns)
    (columns_from (start + length first.relation.columns) (owner + 1) others)
    ∙ λ i. own_types start owner first.called 0 first.relation.columns i ++ star_types (start + length first.relation.columns)
    (owner + 1) others i

-- ---- what is seen is typed

-- the length of types
length_types : (columns : List Column) → length (types_of columns) ≡ length columns
length_types columns = length-map columns (λ column. column.kind)

-- a column of a reference has its type in the rows of all so far
seen_in_typed : (types more : List ColumnType) (owner : ℕ) (seen : SeenColumn) → IsSeenIn (length types) owner more seen
    → IsTyped (types ++ more) seen.place seen.kind
seen_in_typed types more owner seen h = ap (slice_get (types ++ more)) h.placed ∙ (get_right types more seen.within ∙ h.typed)

-- a column of some references has its type in the rows of all, behind those before
pub seen_from_typed : (types : List ColumnType) (start owner : ℕ) → length types ≡ start → (references : List Referred) (seen : SeenColumn)
    → IsSeenFrom start owner references seen
    → IsTyped (types ++ row_types references) seen.place seen.kind
seen_from_typed types start owner long [] seen h = elim h [ ]
seen_from_typed types start owner long (first ∷ others) seen (inl h) =
    let here : IsSeenIn (length types) owner (types_of first.relation.columns) seen =
    subst (λ n. IsSeenIn n owner (types_of first.relation.columns) seen) (sym long) h in
    subst (λ row. IsTyped row seen.place seen.kind) append_assoc-here
    (get_left (types ++ types_of first.relation.columns) (row_types others) seen.place seen.kind
    (seen_in_typed types (types_of first.relation.columns) owner seen here))
  where
    append_assoc-here : (types ++ types_of first.relation.columns) ++ row_types others ≡ types ++
        (types_of first.relation.columns ++ row_types others)
    append_assoc-here = simp append_assoc
seen_from_typed types start owner long (first ∷ others) seen (inr h) =
    let longer : length (types ++ types_of first.relation.columns) ≡ start + length first.relation.columns =
    omega (arith, length-append types (types_of first.relation.columns), length_types first.relation.columns, long) in
    subst (λ row. IsTyped row seen.place seen.kind) append_assoc-here
    (seen_from_typed (types ++ types_of first.relation.columns) (start + length first.relation.columns) (owner + 1) longer others seen h)
  where
    append_assoc-here : (types ++ types_of first.relation.columns) ++ row_types others ≡ types ++
        (types_of first.relation.columns ++ row_types others)
    append_assoc-here = simp append_assoc

-- its reference stands at or behind the first of these
seen_behind : (start owner : ℕ) (references : List Referred) (seen : SeenColumn) → IsSeenFrom start owner references seen
    → owner ≤ seen.owner
seen_behind start owner [] seen h = elim h [ ]
seen_behind start owner (first ∷ others) seen (inl h) = omega (arith, h.owned)
seen_behind start owner (first ∷ others) seen (inr h) =
    omega (arith, seen_behind (start + length first.relation.columns) (owner + 1) others seen h)

-- ---- the equalities of joins

-- a pair is of two columns of one type, the first of a reference before the joined one and the second of that one
pub record IsPairOf (sees : SeenColumn → Type 0) (number : ℕ) (pair : ℕ × ℕ) : Type 0 where
  pub left : SeenColumn
  pub right : SeenColumn
  pub sees_left : sees left
  pub sees_right : sees right
  pub same : left.kind ≡ right.kind
  pub before : left.owner < number
  pub joined : right.owner ≡ number
  pub left_place : pair.0 ≡ left.place
  pub right_place : pair.1 ≡ right.within

-- so are those of each JOIN, the first of which has this number
abbrev pub ArePairsOf : (SeenColumn → Type 0) → ℕ → List (List (ℕ × ℕ)) → Type 0
ArePairsOf sees number [] = ⊤
ArePairsOf sees number (pairs ∷ others) = Each (IsPairOf sees number) pairs × ArePairsOf sees (number + 1) others

-- two columns that may stand so
sides_pair : (sees : SeenColumn → Type 0) (number : ℕ) (left right : SeenColumn) → sees left → sees right
    → are_sides number left right ≡ true → IsPairOf sees number (left.place, right.within)
sides_pair sees number left right h k sides =
    let parts = and_parts (same_type left.kind right.kind && nat_lt left.owner number) (right.owner == number) sides in
    let more = and_parts (same_type left.kind right.kind) (nat_lt left.owner number) parts.0 in
    record {
      left = left;
      right = right;
      sees_left = h;
      sees_right = k;
      same = same_type_same left.kind right.kind more.0;
      before = ltb-true left.owner number more.1;
      joined = eqb-true right.owner number parts.1;
      left_place = refl;
      right_place = refl;
    }

-- an equality
equality_ok : (sees : SeenColumn → Type 0) (sight : Sight) → Each sees sight.columns → (number : ℕ) (pair : ColumnPair)
    → IfOk (equality sight number pair) (IsPairOf sees number)
equality_ok sees sight h number pair =
    then_ok (meant sight pair.left) _ sees (IsPairOf sees number) (meant_ok sees sight h pair.left) (λ left here.
    then_ok (meant sight pair.right) _ sees (IsPairOf sees number) (meant_ok sees sight h pair.right) (λ right there.
    choice_ok (are_sides number left right) _ _ (IsPairOf sees number) (λ sides. sides_pair sees number left right here there sides) (λ _.
    guard_ok (are_sides number right left) (right.place, left.within) _ (IsPairOf sees number)
    (λ sides. sides_pair sees number right left there here sides))))

-- the pairs of each JOIN, for as many JOINs
pub record AreEqualities (sees : SeenColumn → Type 0) (number joins : ℕ) (pairs : List (List (ℕ × ℕ))) : Type 0 where
  pub are : ArePairsOf sees number pairs
  pub many : length pairs ≡ joins

-- the equalities of JOINs
pub equalities_ok : (sees : SeenColumn → Type 0) (sight : Sight) → Each sees sight.columns → (number : ℕ) (joins : List Join)
    → IfOk (equalities sight number joins) (AreEqualities sees number (length joins))
equalities_ok sees sight h number [] = record { are = tt; many = refl }
equalities_ok sees sight h number (join ∷ joins) =
    then_ok (each (equality sight number) join.pairs) _ (Each (IsPairOf sees number)) (AreEqualities sees number (length (join ∷ joins)))
    (each_ok (equality sight number) (IsPairOf sees number) (equality_ok sees sight h number) join.pairs) (λ first here.
    then_ok (equalities sight (number + 1) joins) _ (AreEqualities sees (number + 1) (length joins))
    (AreEqualities sees number (length (join ∷ joins)))
    (equalities_ok sees sight h (number + 1) joins) (λ others there. record { are = (here, there.are); many = ap suc there.many }))

-- ---- joins

-- a column is of a reference that is joined already and has its type in the rows so far, or is of one that comes
abbrev pub IsSeenAt : List ColumnType → ℕ → List Referred → SeenColumn → Type 0
IsSeenAt types owner others seen = ((seen.owner < owner) × IsTyped types seen.place seen.kind) ⊎ IsSeenFrom (length types) owner others seen

-- with one reference more joined
seen_step : (types : List ColumnType) (owner : ℕ) (next : Referred) (others : List Referred) (seen : SeenColumn)
    → IsSeenAt types owner (next ∷ others) seen
    → IsSeenAt (types ++ types_of next.relation.columns) (owner + 1) others seen
seen_step types owner next others seen (inl h) =
    inl (omega (arith, h.0), get_left types (types_of next.relation.columns) seen.place seen.kind h.1)
seen_step types owner next others seen (inr (inl h)) =
    inl (omega (arith, h.owned), seen_in_typed types (types_of next.relation.columns) owner seen h)
seen_step types owner next others seen (inr (inr h)) =
    let longer : length types + length next.relation.columns ≡ length (types ++ types_of next.relation.columns) =
    omega (arith, length-append types (types_of next.relation.columns), length_types next.relation.columns) in
    inr (subst (λ n. IsSeenFrom n (owner + 1) others seen) longer h)

-- the left column of a pair
left_typed : (types : List ColumnType) (owner : ℕ) (others : List Referred) (seen : SeenColumn) → IsSeenAt types owner others seen
    → seen.owner < owner → IsTyped types seen.place seen.kind
left_typed types owner others seen (inl h) before = h.1
left_typed types owner others seen (inr h) before = absurd (omega (arith, seen_behind (length types) owner others seen h, before))

-- the right one
right_typed : (types : List ColumnType) (owner : ℕ) (next : Referred) (others : List Referred) (seen : SeenColumn)
    → IsSeenAt types owner (next ∷ others) seen → seen.owner ≡ owner
    → IsTyped (types_of next.relation.columns) seen.within seen.kind
right_typed types owner next others seen (inl h) here = absurd (omega (arith, h.0, here))
right_typed types owner next others seen (inr (inl h)) here = h.typed
right_typed types owner next others seen (inr (inr h)) here =
    absurd (omega (arith, seen_behind (length types + length next.relation.columns) (owner + 1) others seen h, here))

-- the pairs of a JOIN
pairs_fit : (sees : SeenColumn → Type 0) (types : List ColumnType) (owner : ℕ) (next : Referred) (others : List Referred)
    → ((seen : SeenColumn) → sees seen → IsSeenAt types owner (next ∷ others) seen)
    → (pairs : List (ℕ × ℕ)) → Each (IsPairOf sees owner) pairs → PairsFit types (types_of next.relation.columns) pairs
pairs_fit sees types owner next others at [] h = tt
pairs_fit sees types owner next others at (pair ∷ pairs) h = (fits h.0, pairs_fit sees types owner next others at pairs h.1)
  where
    fits : IsPairOf sees owner pair → AreOfOneType types pair.0 (types_of next.relation.columns) pair.1
    fits k = record {
      of_type = k.left.kind;
      here = ap (slice_get types) k.left_place ∙ left_typed types owner (next ∷ others) k.left (at k.left k.sees_left) k.before;
      there = ap (slice_get (types_of next.relation.columns)) k.right_place
          ∙ (right_typed types owner next others k.right (at k.right k.sees_right) k.joined ∙ ap Some (sym k.same));
    }

-- a plan is well formed, and these are its types
pub record IsTypedPlan (items : List Item) (row : List ColumnType) (plan : Plan) : Type 0 where
  pub formed : IsWellFormed items plan
  pub types : plan_types items plan ≡ row

-- references joined from the left
pub joined_typed : (items : List Item) (sees : SeenColumn → Type 0) (plan : Plan) (types : List ColumnType) (owner : ℕ)
    (others : List Referred) (pairs : List (List (ℕ × ℕ)))
    → IsTypedPlan items types plan → Each (λ r. IsTypedRelation items r.relation) others → ArePairsOf sees owner pairs
    → length pairs ≡ length others
    → ((seen : SeenColumn) → sees seen → IsSeenAt types owner others seen)
    → IsTypedPlan items (types ++ row_types others) (joined_plan plan others pairs)
joined_typed items sees plan types owner [] pairs h rest are many at = subst (λ row. IsTypedPlan items row plan) (sym (append-nil types)) h
joined_typed items sees plan types owner (next ∷ others) [] h rest are many at = absurd cc
joined_typed items sees plan types owner (next ∷ others) (first ∷ pairs) h rest are many at =
    subst (λ row. IsTypedPlan items row (joined_plan (plans.Join plan next.relation.plan first) others pairs)) (simp append_assoc)
    (joined_typed items sees (plans.Join plan next.relation.plan first) (types ++ types_of next.relation.columns) (owner + 1) others pairs
    joins rest.1 are.1 (suc_same many) (λ seen k. seen_step types owner next others seen (at seen k)))
  where
    suc_same : length (first ∷ pairs) ≡ length (next ∷ others) → length pairs ≡ length others
    suc_same e = omega (arith, e)

    joins : IsTypedPlan items (types ++ types_of next.relation.columns) (plans.Join plan next.relation.plan first)
    joins = record {
      formed = form_of_join items plan next.relation.plan first h.formed rest.0.formed
          (subst (λ left. PairsFit left (plan_types items next.relation.plan) first) (sym h.types)
          (subst (λ right. PairsFit types right first) (sym rest.0.types) (pairs_fit sees types owner next others at first are.0)));
      types = types_of_join items plan next.relation.plan first ∙ λ i. h.types i ++ rest.0.types i;
    }
