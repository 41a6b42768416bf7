-- Peeks in order of their numbers: where one stands, and what is left where it goes.
use Rattle.std.proofs.Common.{◌≡◌, ℕ, zero, suc, ◌<◌, ◌≤◌, ltb, Bool, true, false, Some, Result, Ok, Err, List, [], ◌∷◌, length, get_or, slice_get, refl, sym, ap, subst, ◌∙◌, arith}
use Rattle.std.proofs.lemmas.Bool.Decides.{nat_tests}
use Rattle.std.proofs.lemmas.Cmp.{ranked}
use Rattle.std.specs.List.{find, remove, AllByRecursion as Each}
use Rattle.std.specs.List.Sorted.{IsBinarySearchResult, IsNonDecreasingBy, IsSearchInRange}
use Rattle.std.specs.Ordering.{nat_cmp, ordering_index}
use Rattle.std.specs.Result.{result_ok}
use Rattle.mz_plan.specs.declared.command.PendingPeek.{PendingPeek}
use Rattle.mz_books.specs.Holds.{is_peek}
use Rattle.mz_peeks.specs.Kept.{IsPlaceOf, IsRising}
use Rattle.mz_peeks.proofs.Left.{goes_out, is_it, is_other, left, none_of, stays}

-- ---- places

-- what holds of each holds at each place
at_place : (P : PendingPeek → Type 0) (xs : List PendingPeek) → Each P xs → (k : ℕ) (d : PendingPeek) → k < length xs → P (get_or xs k d)
at_place P [] h k d l = absurd (omega arith)
at_place P (x ∷ xs) h zero d l = h.0
at_place P (x ∷ xs) h (suc k) d l = at_place P xs h.1 k d (omega arith)

-- what stands at a place
pub read_at : {A : Type 0} (p : ℕ) (xs : List A) (x : A) → p < length xs → x ≡ get_or xs p x → slice_get xs p ≡ Some x
read_at p [] x h e = absurd (omega (arith, h))
read_at zero (y ∷ xs) x h e = ap Some (sym e)
read_at (suc p) (y ∷ xs) x h e = read_at p xs x (omega (arith, h)) e

rises : (xs : List PendingPeek) → IsRising xs → (i j : ℕ) (d : PendingPeek) → i ≤ j → j < length xs
    → (get_or xs i d).peek ≤ (get_or xs j d).peek
rises [] f i j d k l = absurd (omega arith)
rises (x ∷ xs) f zero zero d k l = omega arith
rises (x ∷ xs) f zero (suc j) d k l = by (at_place (λ later. x.peek < later.peek) xs f.0 j d (omega arith))
  where
    by : x.peek < (get_or xs j d).peek → x.peek ≤ (get_or xs j d).peek
    by h = omega (arith, h)
rises (x ∷ xs) f (suc i) zero d k l = absurd (omega arith)
rises (x ∷ xs) f (suc i) (suc j) d k l = rises xs f.1 i j d (omega arith) (omega arith)

-- the peek at a later place isn't the first
is_later : (n p : ℕ) (x : PendingPeek) (xs : List PendingPeek) → Each (λ later. x.peek < later.peek) xs → p < length xs
    → ((d : PendingPeek) → (get_or xs p d).peek ≡ n) → is_peek n x ≡ false
is_later n p x xs f h e = grind (arith, nat_tests, at_place (λ later. x.peek < later.peek) xs f p x h, e x)

-- ---- a search

-- the one that is found is the one at the place
found_at : (n p : ℕ) (xs : List PendingPeek) → IsRising xs → p < length xs → ((d : PendingPeek) → (get_or xs p d).peek ≡ n)
    → slice_get xs p ≡ find (is_peek n) xs
found_at n p [] f h e = absurd (omega (arith, h))
found_at n zero (x ∷ xs) f h e = sym (is_it (is_peek n) x xs (grind (arith, nat_tests, e x)))
found_at n (suc p) (x ∷ xs) f h e =
    found_at n p xs f.1 (omega (arith, h)) e ∙ sym (is_other (is_peek n) x xs (is_later n p x xs f.0 (omega (arith, h)) e))

-- the comparisons with a number rise
compared : (n : ℕ) (xs : List PendingPeek) → IsRising xs → IsNonDecreasingBy (λ x. ordering_index (nat_cmp x.peek n)) xs
compared n xs f i j d k l = grind (arith, nat_tests, rises xs f i j d k l)

-- a search ends at the peek, or at no place where none is found
pub placed : (n : ℕ) (xs : List PendingPeek) → IsRising xs → (r : Result ℕ ℕ) → IsSearchInRange r (length xs)
    → IsBinarySearchResult (λ x. nat_cmp x.peek n) xs r → IsPlaceOf n xs (result_ok r)
placed n xs f (Ok p) within equal =
    let number : (d : PendingPeek) → (get_or xs p d).peek ≡ n = λ d. ranked _ n _ (sym (equal d)) in
    record { within = within; number = number; found = found_at n p xs f within number }
placed n xs f (Err p) within parted = none_of (is_peek n) xs apart
  where
    apart : (k : ℕ) (d : PendingPeek) → k < length xs → is_peek n (get_or xs k d) ≡ false
    apart k d l = by (ltb k p) refl
      where
        by : (b : Bool) → ltb k p ≡ b → is_peek n (get_or xs k d) ≡ false
        by true e =
            let before : k < p = grind (arith, nat_tests, e) in
            let less : (get_or xs k d).peek < n = ranked _ n _ (sym ((parted (compared n xs f)).0 k d (omega arith) before)) in
            grind (arith, nat_tests, less)
        by false e =
            let from : p ≤ k = grind (arith, nat_tests, e) in
            let more : n < (get_or xs k d).peek = ranked _ n _ (sym ((parted (compared n xs f)).1 k d from l)) in
            grind (arith, nat_tests, more)

-- ---- it goes

all_stay : (n : ℕ) (xs : List PendingPeek) → Each (λ x. n < x.peek) xs → left (is_peek n) xs ≡ xs
all_stay n [] p = refl
all_stay n (x ∷ xs) p = stays (is_peek n) x xs (grind (arith, nat_tests, p.0)) ∙ ap (λ ys. x ∷ ys) (all_stay n xs p.1)

-- no other has its number
pub goes : (n p : ℕ) (xs : List PendingPeek) → IsRising xs → p < length xs → ((d : PendingPeek) → (get_or xs p d).peek ≡ n)
    → remove xs p ≡ left (is_peek n) xs
goes n p [] f h e = absurd (omega (arith, h))
goes n zero (x ∷ xs) f h e =
    sym (goes_out (is_peek n) x xs (grind (arith, nat_tests, e x))
    ∙ all_stay n xs (subst (λ m. Each (λ later. m < later.peek) xs) (e x) f.0))
goes n (suc p) (x ∷ xs) f h e =
    ap (λ ys. x ∷ ys) (goes n p xs f.1 (omega (arith, h)) e)
    ∙ sym (stays (is_peek n) x xs (is_later n p x xs f.0 (omega (arith, h)) e))
