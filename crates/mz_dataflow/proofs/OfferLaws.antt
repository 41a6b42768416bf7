-- One list of offers for each leaf.
use Rattle.std.proofs.Common.{◌≡◌, ℕ, zero, suc, ◌+◌, ◌<◌, ◌≤◌, ◌==◌, Bool, true, false, cond, List, [], ◌∷◌, ◌++◌, drop, length, get_or, Result, Ok, Err, OnOk, refl, sym, ap, ◌∙◌, arith}
use Rattle.std.proofs.Math.ListN.{set}
use Rattle.std.proofs.lemmas.Bool.Decides.{nat_tests}
use Rattle.std.proofs.lemmas.List.{drop_more, drop_all}
use Rattle.std.specs.List.{AllByRecursion as Each}
use Rattle.mz_updates.specs.declared.update.Update.{Update}
use Rattle.mz_dataflow.specs.Queues.{place_of, updates_of, AreListedOnce}
use Rattle.mz_dataflow.specs.Stands.{with_offer}

-- ---- the search

-- the place is that of the rest, where the list at hand is another leaf's
pub place_on : (leaf : ℕ) (qs : List (ℕ × List Update)) (i : ℕ) (q : ℕ × List Update) → i < length qs → q ≡ get_or qs i q → (q.0 == leaf) ≡ false
    → i + place_of leaf (drop i qs) ≡ place_of leaf qs → (i + 1) + place_of leaf (drop (i + 1) qs) ≡ place_of leaf qs
place_on leaf qs i q within is other h =
    let at : place_of leaf (drop i qs) ≡ place_of leaf (q ∷ drop (i + 1) qs) =
    ap (place_of leaf) (drop_more qs i q within ∙ ap (λ r. r ∷ drop (i + 1) qs) (sym is)) in
    let more : place_of leaf (q ∷ drop (i + 1) qs) ≡ suc (place_of leaf (drop (i + 1) qs)) =
    ap (λ c. cond c 0 (suc (place_of leaf (drop (i + 1) qs)))) other in
    omega (arith, h, at, more)

-- and else it is here
pub place_here : (leaf : ℕ) (qs : List (ℕ × List Update)) (i : ℕ) (q : ℕ × List Update) → i < length qs → q ≡ get_or qs i q → (q.0 == leaf) ≡ true
    → i + place_of leaf (drop i qs) ≡ place_of leaf qs → i ≡ place_of leaf qs
place_here leaf qs i q within is same h =
    let at : place_of leaf (drop i qs) ≡ place_of leaf (q ∷ drop (i + 1) qs) =
    ap (place_of leaf) (drop_more qs i q within ∙ ap (λ r. r ∷ drop (i + 1) qs) (sym is)) in
    let none : place_of leaf (q ∷ drop (i + 1) qs) ≡ 0 = ap (λ c. cond c 0 (suc (place_of leaf (drop (i + 1) qs)))) same in
    omega (arith, h, at, none)

-- or nowhere
pub place_nowhere : (leaf : ℕ) (qs : List (ℕ × List Update)) (i : ℕ) → length qs ≤ i → i + place_of leaf (drop i qs) ≡ place_of leaf qs → i ≡ place_of leaf qs
place_nowhere leaf qs i past h =
    let none : place_of leaf (drop i qs) ≡ 0 = ap (place_of leaf) (drop_all i qs past) in
    omega (arith, h, none)

-- it is no later than the end
pub place_most : (leaf : ℕ) (qs : List (ℕ × List Update)) → place_of leaf qs ≤ length qs
place_most leaf [] = omega arith
place_most leaf (q ∷ qs) = by (q.0 == leaf) (place_most leaf qs)
  where
    by : (c : Bool) → place_of leaf qs ≤ length qs → cond c 0 (suc (place_of leaf qs)) ≤ suc (length qs)
    by true h = omega arith
    by false h = omega (arith, h)

-- ---- an offer

-- of a leaf that has no list
pub offer_new : (leaf : ℕ) (us : List Update) (qs : List (ℕ × List Update)) → place_of leaf qs ≡ length qs → (item : ℕ)
    → updates_of (qs ++ (leaf, us) ∷ []) item ≡ with_offer leaf us (updates_of qs) item
offer_new leaf us [] at item = refl
offer_new leaf us (q ∷ qs) at item = by (q.0 == leaf) refl at (λ k. offer_new leaf us qs k item)
  where
    both : (c d : Bool) → (q.0 == item) ≡ c → (leaf == item) ≡ d → (q.0 == leaf) ≡ false
        → updates_of (qs ++ (leaf, us) ∷ []) item ≡ cond d (updates_of qs item ++ us) (updates_of qs item)
        → cond c q.1 (updates_of (qs ++ (leaf, us) ∷ []) item) ≡ cond d (cond c q.1 (updates_of qs item) ++ us) (cond c q.1 (updates_of qs item))
    both true true e f other h = absurd (grind (arith, nat_tests))
    both true false e f other h = refl
    both false d e f other h = h

    by : (b : Bool) → (q.0 == leaf) ≡ b → cond b 0 (suc (place_of leaf qs)) ≡ suc (length qs)
        → (place_of leaf qs ≡ length qs → updates_of (qs ++ (leaf, us) ∷ []) item ≡ with_offer leaf us (updates_of qs) item)
        → updates_of ((q ∷ qs) ++ (leaf, us) ∷ []) item ≡ with_offer leaf us (updates_of (q ∷ qs)) item
    by true e k rest = absurd (omega (arith, k))
    by false e k rest = both (q.0 == item) (leaf == item) refl refl e (rest (omega (arith, k)))

-- and of one that has a list
pub offer_more : (leaf : ℕ) (us : List Update) (qs : List (ℕ × List Update)) (i : ℕ) (q : ℕ × List Update) → i ≡ place_of leaf qs → i < length qs
    → q ≡ get_or qs i q → (item : ℕ) → updates_of (set qs i (q.0, q.1 ++ us)) item ≡ with_offer leaf us (updates_of qs) item
offer_more leaf us [] i q at within is item = absurd (omega (arith, within))
offer_more leaf us (r ∷ qs) i q at within is item = by i (r.0 == leaf) refl at within is (λ j. offer_more leaf us qs j q)
  where
    here : (c d : Bool) → (r.0 == item) ≡ c → (leaf == item) ≡ d → (r.0 == leaf) ≡ true
        → cond c (r.1 ++ us) (updates_of qs item) ≡ cond d (cond c r.1 (updates_of qs item) ++ us) (cond c r.1 (updates_of qs item))
    here true true e f same = refl
    here false false e f same = refl
    here true false e f same = absurd (grind (arith, nat_tests))
    here false true e f same = absurd (grind (arith, nat_tests))

    both : (j : ℕ) (c d : Bool) → (r.0 == item) ≡ c → (leaf == item) ≡ d → (r.0 == leaf) ≡ false
        → updates_of (set qs j (q.0, q.1 ++ us)) item ≡ cond d (updates_of qs item ++ us) (updates_of qs item)
        → cond c r.1 (updates_of (set qs j (q.0, q.1 ++ us)) item) ≡ cond d (cond c r.1 (updates_of qs item) ++ us) (cond c r.1 (updates_of qs item))
    both j true true e f other h = absurd (grind (arith, nat_tests))
    both j true false e f other h = refl
    both j false d e f other h = h

    by : (n : ℕ) (b : Bool) → (r.0 == leaf) ≡ b → n ≡ cond b 0 (suc (place_of leaf qs)) → n < suc (length qs) → q ≡ get_or (r ∷ qs) n q
        → ((j : ℕ) → j ≡ place_of leaf qs → j < length qs → q ≡ get_or qs j q → (item : ℕ)
        → updates_of (set qs j (q.0, q.1 ++ us)) item ≡ with_offer leaf us (updates_of qs) item)
        → updates_of (set (r ∷ qs) n (q.0, q.1 ++ us)) item ≡ with_offer leaf us (updates_of (r ∷ qs)) item
    by zero true e k l m rest =
        ap (λ (s : ℕ × List Update). cond (s.0 == item) (s.1 ++ us) (updates_of qs item)) m ∙ here (r.0 == item) (leaf == item) refl refl e
    by zero false e k l m rest = absurd (omega (arith, k))
    by (suc j) true e k l m rest = absurd (omega (arith, k))
    by (suc j) false e k l m rest =
        both j (r.0 == item) (leaf == item) refl refl e (rest j (omega (arith, k)) (omega (arith, l)) m item)

-- where all were put behind
pub offer_if : {A E : Type 0} (result : Result A E) (leaf : ℕ) (us : List Update) (qs : List (ℕ × List Update)) (i : ℕ) (q : ℕ × List Update)
    (new : List Update) → i ≡ place_of leaf qs → i < length qs → q ≡ get_or qs i q → OnOk result (new ≡ q.1 ++ us)
    → OnOk result ((item : ℕ) → updates_of (set qs i (q.0, new)) item ≡ with_offer leaf us (updates_of qs) item)
offer_if (Ok o) leaf us qs i q new at within is put = λ item.
    ap (λ vs. updates_of (set qs i (q.0, vs)) item) put ∙ offer_more leaf us qs i q at within is item
offer_if (Err e) leaf us qs i q new at within is put = tt

-- ---- no leaf is listed twice

listed_end : (leaf : ℕ) (us : List Update) (qs : List (ℕ × List Update)) (n : ℕ) → (leaf == n) ≡ false → Each (λ r. (r.0 == n) ≡ false) qs
    → Each (λ r. (r.0 == n) ≡ false) (qs ++ (leaf, us) ∷ [])
listed_end leaf us [] n other h = (other, tt)
listed_end leaf us (q ∷ qs) n other h = (h.0, listed_end leaf us qs n other h.1)

-- where a list comes in of one that has none
pub listed_new : (leaf : ℕ) (us : List Update) (qs : List (ℕ × List Update)) → place_of leaf qs ≡ length qs → AreListedOnce qs
    → AreListedOnce (qs ++ (leaf, us) ∷ [])
listed_new leaf us [] at h = (tt, tt)
listed_new leaf us (q ∷ qs) at h = by (q.0 == leaf) refl at (λ k. listed_new leaf us qs k h.1)
  where
    by : (b : Bool) → (q.0 == leaf) ≡ b → cond b 0 (suc (place_of leaf qs)) ≡ suc (length qs)
        → (place_of leaf qs ≡ length qs → AreListedOnce (qs ++ (leaf, us) ∷ [])) → AreListedOnce ((q ∷ qs) ++ (leaf, us) ∷ [])
    by true e k rest = absurd (omega (arith, k))
    by false e k rest =
        let other : (leaf == q.0) ≡ false = grind (arith, nat_tests) in
        (listed_end leaf us qs q.0 other h.0, rest (omega (arith, k)))

listed_there : (qs : List (ℕ × List Update)) (i : ℕ) (q : ℕ × List Update) (us : List Update) (n : ℕ) → i < length qs → q ≡ get_or qs i q
    → Each (λ r. (r.0 == n) ≡ false) qs → Each (λ r. (r.0 == n) ≡ false) (set qs i (q.0, us))
listed_there [] i q us n within is h = absurd (omega (arith, within))
listed_there (r ∷ qs) zero q us n within is h = (ap (λ s. s.0 == n) is ∙ h.0, h.1)
listed_there (r ∷ qs) (suc i) q us n within is h = (h.0, listed_there qs i q us n (omega (arith, within)) is h.1)

-- and where a list changes
pub listed_more : (qs : List (ℕ × List Update)) (i : ℕ) (q : ℕ × List Update) (us : List Update) → i < length qs → q ≡ get_or qs i q → AreListedOnce qs
    → AreListedOnce (set qs i (q.0, us))
listed_more [] i q us within is h = absurd (omega (arith, within))
listed_more (r ∷ qs) zero q us within is h = (subst_number qs h.0, h.1)
  where
    subst_number : (rs : List (ℕ × List Update)) → Each (λ s. (s.0 == r.0) ≡ false) rs → Each (λ s. (s.0 == q.0) ≡ false) rs
    subst_number [] k = tt
    subst_number (s ∷ rs) k = (ap (λ t. s.0 == t.0) is ∙ k.0, subst_number rs k.1)
listed_more (r ∷ qs) (suc i) q us within is h = (
  listed_there qs i q us r.0 (omega (arith, within)) is h.0,
  listed_more qs i q us (omega (arith, within)) is h.1,
)
