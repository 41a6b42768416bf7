-- The numbers of peeks, as these come and go.
use Rattle.std.proofs.Common.{◌≡◌, ℕ, ◌+◌, ◌<◌, ◌≤◌, Bool, true, false, cond, Some, None, List, [], ◌∷◌, ◌++◌, filter, length, refl, sym, ap, subst, ◌∙◌, arith}
use Rattle.std.proofs.lemmas.Bool.Decides.{nat_tests}
use Rattle.std.proofs.lemmas.List.{take-append-le, length-append}
use Rattle.std.proofs.lemmas.List.Folds.{find-append}
use Rattle.std.proofs.Math.Seq.{take-length}
use Rattle.std.specs.List.{find, AllByRecursion as Each}
use Rattle.std.specs.Option.{option_or}
use Rattle.mz_plan.specs.declared.command.PendingPeek.{PendingPeek}
use Rattle.mz_books.specs.Holds.{is_peek}
use Rattle.mz_peeks.specs.Kept.{AreNumbered, IsKept, IsRising}
use Rattle.mz_peeks.proofs.Left.{each_left, is_it, is_other}

-- ---- some go

rising_left : (test : PendingPeek → Bool) (xs : List PendingPeek) → IsRising xs → IsRising (filter test xs)
rising_left test [] f = tt
rising_left test (x ∷ xs) f = by (test x) (rising_left test xs f.1)
  where
    by : (b : Bool) → IsRising (filter test xs) → IsRising (cond b (x ∷ filter test xs) (filter test xs))
    by true ih = (each_left (λ later. x.peek < later.peek) test xs f.0, ih)
    by false ih = ih

numbered_left : (test : PendingPeek → Bool) (made : ℕ) (xs : List PendingPeek) → AreNumbered xs made → AreNumbered (filter test xs) made
numbered_left test made xs p =
    record { rising = rising_left test xs p.rising; within = each_left (λ x. x.peek ≤ made) test xs p.within }

-- the mark is at the beginning then
pub kept_left : (test : PendingPeek → Bool) (xs : List PendingPeek) (made mark then : ℕ) → IsKept xs made mark then
    → IsKept (filter test xs) made 0 then
kept_left test xs made mark then k = record {
  marked = omega arith;
  numbered = numbered_left test made xs k.numbered;
  numbered_then = record { rising = tt; within = tt };
}

-- ---- one comes

within_more : (made : ℕ) (xs : List PendingPeek) (x : PendingPeek) → Each (λ y. y.peek ≤ made) xs → x.peek ≡ made + 1
    → Each (λ y. y.peek ≤ made + 1) (xs ++ x ∷ [])
within_more made [] x p e = (omega (arith, e), tt)
within_more made (y ∷ xs) x p e = (omega (arith, p.0), within_more made xs x p.1 e)

before_more : (m : ℕ) (xs : List PendingPeek) (x : PendingPeek) → Each (λ y. m < y.peek) xs → m < x.peek
    → Each (λ y. m < y.peek) (xs ++ x ∷ [])
before_more m [] x p h = (h, tt)
before_more m (y ∷ xs) x p h = (p.0, before_more m xs x p.1 h)

rising_more : (made : ℕ) (xs : List PendingPeek) (x : PendingPeek) → IsRising xs → Each (λ y. y.peek ≤ made) xs → x.peek ≡ made + 1
    → IsRising (xs ++ x ∷ [])
rising_more made [] x f p e = (tt, tt)
rising_more made (y ∷ xs) x f p e =
    (before_more y.peek xs x f.0 (omega (arith, p.0, e)), rising_more made xs x f.1 p.1 e)

-- one with the next number behind the others
pub kept_more : (xs : List PendingPeek) (made mark then : ℕ) (x : PendingPeek) → IsKept xs made mark then → x.peek ≡ made + 1
    → IsKept (xs ++ x ∷ []) (made + 1) mark then
kept_more xs made mark then x k e = record {
  marked = omega (arith, k.marked, length-append xs (x ∷ []));
  numbered = record {
    rising = rising_more made xs x k.numbered.rising k.numbered.within e;
    within = within_more made xs x k.numbered.within e;
  };
  numbered_then = subst (λ ys. AreNumbered ys then) (sym (take-append-le mark xs (x ∷ []) k.marked)) k.numbered_then;
}

-- ---- marks

-- a mark at the end is all
pub kept_whole : (xs : List PendingPeek) (made mark then : ℕ) → IsKept xs made mark then → IsKept xs made (length xs) made
kept_whole xs made mark then k = record {
  marked = omega arith;
  numbered = k.numbered;
  numbered_then = subst (λ ys. AreNumbered ys made) (sym (take-length xs)) k.numbered;
}

-- ---- the next number

-- none has it
pub none_past : (made : ℕ) (xs : List PendingPeek) → Each (λ x. x.peek ≤ made) xs → find (is_peek (made + 1)) xs ≡ None
none_past made [] p = refl
none_past made (x ∷ xs) p = is_other (is_peek (made + 1)) x xs (grind (arith, nat_tests, p.0)) ∙ none_past made xs p.1

-- and one that gets it is found by it
pub new_found : (made : ℕ) (xs : List PendingPeek) (x : PendingPeek) → Each (λ y. y.peek ≤ made) xs → x.peek ≡ made + 1
    → find (is_peek (made + 1)) (xs ++ x ∷ []) ≡ Some x
new_found made xs x p e =
    find-append (is_peek (made + 1)) xs (x ∷ [])
    ∙ ap (λ found. option_or found (find (is_peek (made + 1)) (x ∷ []))) (none_past made xs p)
    ∙ is_it (is_peek (made + 1)) x [] (grind (arith, nat_tests, e))
