-- Rows whose values are related to the types of columns: side by side, at places, and among the rows that are there.
use Rattle.std.proofs.Common.{◌≡◌, ◌≢◌, ◌<◌, ◌∙◌, ℕ, zero, suc, Bool, true, false, cond, not, ◌||◌, ℤ, pos, ◌+ℤ◌, ◌*ℤ◌, List, [], ◌∷◌, ◌++◌, map, filter, length, Some, slice_get, true≢false, refl, sym, ap, subst, arith}
use Rattle.std.proofs.lemmas.Int.{ints}
use Rattle.std.specs.Cmp.{signed_Decides}
use Rattle.std.specs.FinMap.{entries, keys}
use Rattle.std.specs.List.{AllByRecursion as Each, cons_option, list_any}
use Rattle.std.specs.Ordering.{int_eq}
use Rattle.mz_value.specs.Row.{row_eq}
use Rattle.mz_value.specs.RowOrder.{row_eq-Decides}
use Rattle.mz_value.specs.declared.datum.Datum.{Datum}
use Rattle.mz_bag.specs.Weighted.{Weighted, bag_of, count}
use Rattle.mz_statement.specs.declared.column.ColumnType.{ColumnType}
use Rattle.mz_plan.specs.Operators.{distinct, joined, joined_row, joins}
use Rattle.mz_plan.specs.PlanTypes.{types_at}
use Rattle.mz_plan.specs.RowTypes.{AreOf}
use Rattle.mz_plan.specs.Value.{cells, value_at}
use Rattle.mz_plan.specs.WellFormed.{PlacesFit}
use Rattle.mz_plan_laws.proofs.OperatorLaws.{there}
use Rattle.mz_plan_laws.proofs.Weighing.{row_itself}

-- ---- rows side by side, and places

-- there is something at each place within
pub some_there : {X : Type 0} (xs : List X) (i : ℕ) → i < length xs → (x : X) × (slice_get xs i ≡ Some x)
some_there [] i h = absurd (omega arith)
some_there (x ∷ xs) zero h = (x, refl)
some_there (x ∷ xs) (suc i) h = some_there xs i (omega arith)

-- the rows of a join are of the types of both sides
pub both_of : (related : ColumnType → Datum → Type 0) (types : List ColumnType) (row : List Datum) (more : List ColumnType)
    (others : List Datum) → AreOf related types row → AreOf related more others → AreOf related (types ++ more) (row ++ others)
both_of related [] [] more others h k = k
both_of related (of_type ∷ types) (value ∷ row) more others h k = (h.0, both_of related types row more others h.1 k)
both_of related [] (value ∷ row) more others h k = absurd h
both_of related (of_type ∷ types) [] more others h k = absurd h

-- the value at a place is of the type there
pub value_of : (related : ColumnType → Datum → Type 0) (types : List ColumnType) (row : List Datum) → AreOf related types row
    → (place : ℕ) (of_type : ColumnType) → slice_get types place ≡ Some of_type → related of_type (value_at row place)
value_of related [] [] h place of_type e = absurd cc
value_of related (first ∷ types) (value ∷ row) h zero of_type e =
    let same : first ≡ of_type = cc in subst (λ t. related t value) same h.0
value_of related (first ∷ types) (value ∷ row) h (suc place) of_type e = value_of related types row h.1 place of_type e
value_of related [] (value ∷ row) h place of_type e = absurd h
value_of related (first ∷ types) [] h place of_type e = absurd h

-- the values at places are of the types there
pub cells_of : (related : ColumnType → Datum → Type 0) (types : List ColumnType) (row : List Datum) → AreOf related types row
    → (places : List ℕ) → PlacesFit types places → AreOf related (types_at places types) (cells places row)
cells_of related types row h [] fits = tt
cells_of related types row h (place ∷ places) fits =
    let found = some_there types place fits.0 in
    subst (λ o. AreOf related (cons_option o (types_at places types)) (cells (place ∷ places) row)) (sym found.1)
    (value_of related types row h place found.0 found.1, cells_of related types row h places fits.1)

-- ---- what holds of each row

-- what holds of each of both lists
pub each_append : {X : Type 0} (P : X → Type 0) (xs ys : List X) → Each P xs → Each P ys → Each P (xs ++ ys)
each_append P [] ys h k = k
each_append P (x ∷ xs) ys h k = (h.0, each_append P xs ys h.1 k)

-- what is weaker holds of each too
pub each_weaker : {X : Type 0} (P Q : X → Type 0) → ((x : X) → P x → Q x) → (xs : List X) → Each P xs → Each Q xs
each_weaker P Q f [] h = tt
each_weaker P Q f (x ∷ xs) h = (f x h.0, each_weaker P Q f xs h.1)

-- what holds of what a function gives of each
pub each_map : {X Y : Type 0} (P : Y → Type 0) (f : X → Y) (xs : List X) → Each (λ x. P (f x)) xs → Each P (map f xs)
each_map P f [] h = tt
each_map P f (x ∷ xs) h = (h.0, each_map P f xs h.1)

-- and back
pub each_unmap : {X Y : Type 0} (P : Y → Type 0) (f : X → Y) (xs : List X) → Each P (map f xs) → Each (λ x. P (f x)) xs
each_unmap P f [] h = tt
each_unmap P f (x ∷ xs) h = (h.0, each_unmap P f xs h.1)

-- what holds of each holds of those that are kept
pub each_kept : {X : Type 0} (P : X → Type 0) (keeps : X → Bool) (xs : List X) → Each P xs → Each P (filter keeps xs)
each_kept P keeps [] h = tt
each_kept P keeps (x ∷ xs) h = by (keeps x) (each_kept P keeps xs h.1)
  where
    by : (c : Bool) → Each P (filter keeps xs) → Each P (cond c (x ∷ filter keeps xs) (filter keeps xs))
    by true k = (h.0, k)
    by false k = k

-- the rows of a join are one of the left side and one of the right side, one behind the other
pub each_joined : (P Q R : List Datum → Type 0) → ((l r : List Datum) → P l → Q r → R (l ++ r)) → (pairs : List (ℕ × ℕ))
    (left right : Weighted) → Each (λ w. P w.0) left → Each (λ w. Q w.0) right → Each (λ w. R w.0) (joined pairs left right)
each_joined P Q R both pairs [] right h k = tt
each_joined P Q R both pairs (l ∷ left) right h k =
    each_append (λ w. R w.0) (joined_row pairs l right) (joined pairs left right)
    (each_map (λ w. R w.0) (λ r. (l.0 ++ r.0, l.1 *ℤ r.1)) (filter (λ r. joins pairs l.0 r.0) right)
    (each_weaker (λ r. Q r.0) (λ r. R (l.0 ++ r.0)) (λ r q. both l.0 r.0 h.0 q) (filter (λ r. joins pairs l.0 r.0) right)
    (each_kept (λ r. Q r.0) (λ r. joins pairs l.0 r.0) right k)))
    (each_joined P Q R both pairs left right h.1 k)

-- ---- the rows that are there

-- a test that isn't false
pub is_not : (n : ℤ) → not (int_eq n (pos 0)) ≡ true → n ≢ pos 0
is_not n h z = true≢false (sym h ∙ ap not ((signed_Decides n (pos 0)).1 z))

-- what holds of each row of a list holds of a row that it counts
pub row_there : (P : List Datum → Type 0) (ws : Weighted) → Each (λ w. P w.0) ws → (q : List Datum) → count q ws ≢ pos 0 → P q
row_there P [] h q is = absurd (is refl)
row_there P (w ∷ ws) h q is = by (row_eq q w.0) refl is (row_there P ws h.1 q)
  where
    by : (c : Bool) → row_eq q w.0 ≡ c → cond c w.1 (pos 0) +ℤ count q ws ≢ pos 0 → (count q ws ≢ pos 0 → P q) → P q
    by true same k rest = subst P (sym ((row_eq-Decides q w.0).0 same)) h.0
    by false same k rest = rest (λ z. k (omega (arith, ints, z)))

-- what holds of each row in a list holds of all
pub each_in : (P : List Datum → Type 0) (rows : List (List Datum)) → ((row : List Datum) → list_any (row_eq row) rows ≡ true → P row)
    → Each P rows
each_in P [] h = tt
each_in P (row ∷ rows) h = (
  h row (ap (λ c. c || list_any (row_eq row) rows) (row_itself row)),
  each_in P rows (λ other e. h other (or_right (row_eq other row) (list_any (row_eq other) rows) e)),
)
  where
    or_right : (a b : Bool) → b ≡ true → (a || b) ≡ true
    or_right true b k = refl
    or_right false b k = k

-- what holds of each row of a list holds of those that are there
pub each_there : (P : List Datum → Type 0) (ws : Weighted) → Each (λ w. P w.0) ws → Each P (keys (bag_of ws))
each_there P ws h = each_in P (keys (bag_of ws)) (λ row e. row_there P ws h row (is_not (count row ws) (sym (there row ws) ∙ e)))

-- and of the entries of the bag
pub each_entry : (P : List Datum → Type 0) (ws : Weighted) → Each (λ w. P w.0) ws → Each (λ w. P w.0) (entries (bag_of ws))
each_entry P ws h = each_unmap P (λ w. w.0) (entries (bag_of ws)) (each_there P ws h)

-- and of DISTINCT
pub each_distinct : (P : List Datum → Type 0) (ws : Weighted) → Each (λ w. P w.0) ws → Each (λ w. P w.0) (distinct ws)
each_distinct P ws h = each_map (λ w. P w.0) (λ row. (row, pos 1)) (keys (bag_of ws)) (each_there P ws h)
