-- What is passed on to collections.
use Rattle.std.proofs.Common.{◌≡◌, ℕ, zero, suc, ◌-◌, ◌<◌, ◌≤◌, ◌==◌, ◌||◌, Bool, true, false, cond, List, [], ◌∷◌, length, get_or, set, slice_get, refl, sym, ap, ◌∙◌, arith}
use Rattle.std.proofs.lemmas.Bool.Decides.{nat_tests}
use Rattle.std.specs.List.{list_any}
use Rattle.mz_time.specs.declared.frontier.Frontier.{Frontier}
use Rattle.mz_time.specs.Frontier.{meet}
use Rattle.mz_time.proofs.FrontierLemmas.{meet_assoc, meet_idem}
use Rattle.mz_collections.specs.Kept.{passed_found, passed_on, passed_to, put_at}
use Rattle.mz_collections.proofs.Under.{is_it, is_other}

found_place : (p : ℕ) (fs : List Frontier) (d : Frontier) → p < length fs → get_or fs p d ≡ passed_found (slice_get fs p)
found_place p [] d h = absurd (omega (arith, h))
found_place zero (f ∷ fs) d h = refl
found_place (suc p) (f ∷ fs) d h = found_place p fs d (omega (arith, h))

pub found_under : (n : ℕ) (fs : List Frontier) (d : Frontier) → 0 < n → n ≤ length fs → get_or fs (n - 1) d ≡ passed_to n fs
found_under n fs d l h = found_place (n - 1) fs d (omega (arith, l, h))

put_here : (p : ℕ) (fs : List Frontier) (f : Frontier) → p < length fs → passed_found (slice_get (set fs p f) p) ≡ f
put_here p [] f h = absurd (omega (arith, h))
put_here zero (g ∷ fs) f h = refl
put_here (suc p) (g ∷ fs) f h = put_here p fs f (omega (arith, h))

put_elsewhere : (p q : ℕ) (fs : List Frontier) (f : Frontier) → (p == q) ≡ false → passed_found (slice_get (set fs p f) q) ≡ passed_found (slice_get fs q)
put_elsewhere p q [] f e = refl
put_elsewhere zero zero (g ∷ fs) f e = absurd (grind (arith, nat_tests, e))
put_elsewhere zero (suc q) (g ∷ fs) f e = refl
put_elsewhere (suc p) zero (g ∷ fs) f e = refl
put_elsewhere (suc p) (suc q) (g ∷ fs) f e = put_elsewhere p q fs f (grind (arith, nat_tests, e))

pub put_under : (k n : ℕ) (fs : List Frontier) (f : Frontier) → 0 < k → k ≤ length fs → 0 < n → passed_to n (set fs (k - 1) f) ≡ put_at f k n (passed_to n fs)
put_under k n fs f l h m = by (k == n) refl
  where
    by : (b : Bool) → (k == n) ≡ b → passed_to n (set fs (k - 1) f) ≡ put_at f k n (passed_to n fs)
    by true e =
        let same : n ≡ k = grind (arith, nat_tests, e) in
        ap (λ j. passed_to j (set fs (k - 1) f)) same ∙ put_here (k - 1) fs f (omega (arith, l, h)) ∙ sym (is_it (k == n) f (passed_to n fs) e)
    by false e =
        let other : (k - 1 == n - 1) ≡ false = grind (arith, nat_tests, e, l, m) in
        put_elsewhere (k - 1) (n - 1) fs f other ∙ sym (is_other (k == n) f (passed_to n fs) e)

-- a since passed on to the first, and then to the rest
pub pass_more : (since least : Frontier) (first : ℕ) (rest : List ℕ) (n : ℕ) (f g h : Frontier) → ((first == n) ≡ true → least ≡ meet since f) → g ≡ put_at least first n f
    → h ≡ passed_on since rest n g → h ≡ passed_on since (first ∷ rest) n f
pass_more since least first rest n f g h l e q = q ∙ by (first == n) refl (list_any (λ input. input == n) rest)
  where
    by : (a : Bool) → (first == n) ≡ a → (b : Bool) → cond b (meet since g) g ≡ cond ((first == n) || b) (meet since f) f
    by true k b =
        let is : g ≡ meet since f = e ∙ is_it (first == n) least f k ∙ l k in
        one b is ∙ sym (ap (λ c. cond (c || b) (meet since f) f) k)
      where
        one : (b : Bool) → g ≡ meet since f → cond b (meet since g) g ≡ meet since f
        one true is = ap (meet since) is ∙ sym (meet_assoc since since f) ∙ ap (λ c. meet c f) (meet_idem since)
        one false is = is
    by false k b =
        let is : g ≡ f = e ∙ is_other (first == n) least f k in
        ap (λ x. cond b (meet since x) x) is ∙ sym (ap (λ c. cond (c || b) (meet since f) f) k)
