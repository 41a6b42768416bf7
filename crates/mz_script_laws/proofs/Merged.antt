-- What is said of answers in order, one for each pending peek, is what is said of these peeks.
use Rattle.std.specs.Prelude.{flat_map}
use Rattle.std.proofs.Common.{◌≡◌, ℕ, ◌<◌, ◌==◌, true, List, [], ◌∷◌, ◌++◌, Option, None, Some, find, refl, sym, ap, ◌∙◌, inl, inr, arith}
use Rattle.std.specs.List.{AllByRecursion as Each, list_any}
use Rattle.std.proofs.lemmas.Bool.{cases_Bool, cond-false, cond-true, eq-eqb, eqb-true, false≢true, ne_eqb, or_cases}
use Rattle.mz_plan.specs.declared.command.PendingPeek.{PendingPeek}
use Rattle.mz_rules.proofs.Each.{each_both, each_of}
use Rattle.mz_call_laws.specs.Members.{Pairwise}
use Rattle.mz_call_laws.specs.Waiting.{IsMadeBefore}
use Rattle.mz_books.specs.Holds.{is_peek}
use Rattle.mz_books.specs.Owed.{is_answered}
use Rattle.mz_script_laws.proofs.AskedLines.{Rise}

-- two functions that give the same of each member give the same of all
same_flat : {A B : Type 0} (f g : A → List B) (xs : List A) → Each (λ x. f x ≡ g x) xs → flat_map f xs ≡ flat_map g xs
same_flat f g [] p = refl
same_flat f g (x ∷ xs) p = ap (λ ys. ys ++ flat_map f xs) p.0 ∙ ap (λ ys. g x ++ ys) (same_flat f g xs p.1)

-- no peek is found below all numbers
none_found : (n : ℕ) (ps : List PendingPeek) → Each (λ p. n < p.peek) ps → find (is_peek n) ps ≡ None
none_found n [] h = refl
none_found n (p ∷ ps) h = cond-false _ _ _ (ne_eqb p.peek n (λ e. let less = h.0 in omega (arith, less, e))) ∙ none_found n ps h.1

-- a peek that is answered has one of the numbers, and so is above what is below these
above : (n : ℕ) (ns : List ℕ) (p : PendingPeek) → Each (λ m. n < m) ns → is_answered ns p ≡ true → n < p.peek
above n [] p h e = absurd (false≢true e)
above n (m ∷ ns) p h e = elim (or_cases (m == p.peek) (list_any (λ answer. answer == p.peek) ns) e) [
  | inl own ↦ let same = eqb-true m p.peek own in let less = h.0 in omega (arith, less, same)
  | inr later ↦ above n ns p h.1 later
]

-- one that has another number than the first is answered by the others
among : (n : ℕ) (ns : List ℕ) (p : PendingPeek) → n < p.peek → is_answered (n ∷ ns) p ≡ true → is_answered ns p ≡ true
among n ns p less e = elim (or_cases (n == p.peek) (list_any (λ answer. answer == p.peek) ns) e) [
  | inl own ↦ let same = eqb-true n p.peek own in absurd (omega (arith, less, same))
  | inr later ↦ later
]

-- what is said of numbers in order, by the peek of each, is what is said of the peeks
pub merged : {A : Type 0} (g : Option PendingPeek → List A) → g None ≡ [] → (ns : List ℕ) (ps : List PendingPeek) → Rise ns
    → Pairwise IsMadeBefore ps → Each (λ p. is_answered ns p ≡ true) ps
    → flat_map (λ n. g (find (is_peek n) ps)) ns ≡ flat_map (λ p. g (Some p)) ps
merged g none [] [] rise made all = refl
merged g none [] (p ∷ ps) rise made all = absurd (false≢true all.0)
merged g none (n ∷ ns) [] rise made all = ap (λ ys. ys ++ flat_map (λ m. g None) ns) none ∙ merged g none ns [] rise.1 tt tt
merged g none (n ∷ ns) (p ∷ ps) rise made all = elim (cases_Bool (is_peek n p)) [
  | inl own ↦
      let same : p.peek ≡ n = eqb-true p.peek n own in
      ap (λ ys. ys ++ flat_map (λ m. g (find (is_peek m) (p ∷ ps))) ns) (ap g (cond-true _ _ _ own))
      ∙ ap (λ ys. g (Some p) ++ ys)
      (same_flat (λ m. g (find (is_peek m) (p ∷ ps))) (λ m. g (find (is_peek m) ps)) ns
      (each_of (λ m. n < m) (λ m. g (find (is_peek m) (p ∷ ps)) ≡ g (find (is_peek m) ps))
      (λ m less. ap g (cond-false _ _ _ (ne_eqb p.peek m (λ e. omega (arith, less, e, same))))) ns rise.0)
      ∙ merged g none ns ps rise.1 made.1
      (each_both (IsMadeBefore p) (λ q. is_answered (n ∷ ns) q ≡ true) (λ q. is_answered ns q ≡ true)
      (λ q less e. among n ns q (omega (arith, less, same)) e) ps made.0 all.1))
  | inr other ↦
      let below : n < p.peek = elim (or_cases (n == p.peek) (list_any (λ answer. answer == p.peek) ns) all.0) [
        | inl own ↦ absurd (let same = eqb-true n p.peek own in false≢true (sym other ∙ eq-eqb p.peek n (sym same)))
        | inr later ↦ above n ns p rise.0 later
      ] in
      let low : Each (λ q. n < q.peek) (p ∷ ps) = (below, each_of (IsMadeBefore p) (λ q. n < q.peek) (λ q less. omega (arith, less, below)) ps made.0) in
      ap (λ ys. ys ++ flat_map (λ m. g (find (is_peek m) (p ∷ ps))) ns) (ap g (none_found n (p ∷ ps) low) ∙ none)
      ∙ merged g none ns (p ∷ ps) rise.1 made
      (each_both (λ q. n < q.peek) (λ q. is_answered (n ∷ ns) q ≡ true) (λ q. is_answered ns q ≡ true)
      (λ q less e. among n ns q less e) (p ∷ ps) low all)
]
