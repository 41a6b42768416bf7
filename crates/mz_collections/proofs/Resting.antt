-- Collections that are done stay at rest, as holds and peeks come and go and sinces are settled.
use Rattle.std.proofs.Common.{◌≡◌, ℕ, ◌+◌, ◌≤◌, ◌==◌, Bool, true, false, cond, List, [], ◌∷◌, ◌++◌, map, filter, not, refl, sym, ap, subst, ◌∙◌, arith}
use Rattle.std.proofs.lemmas.Bool.Decides.{nat_tests}
use Rattle.std.specs.List.{AllByRecursion as Each}
use Rattle.mz_time.specs.declared.frontier.Frontier.TheVariants.{At, Done}
use Rattle.mz_time.specs.Frontier.{Le, meet}
use Rattle.mz_rules.specs.declared.capability.Collection.{Collection}
use Rattle.mz_rules.specs.declared.capability.Hold.{Hold}
use Rattle.mz_rules.specs.declared.capability.Settled.{Settled}
use Rattle.mz_rules.specs.Capabilities.{Capability, of_hold}
use Rattle.mz_rules.specs.Numbering.{Numbered}
use Rattle.mz_rules.specs.Since.{least_on, least_reader, own, settle, since_or}
use Rattle.mz_rules.proofs.Each.{each_of}
use Rattle.mz_holds.specs.HoldBook.{at_time}
use Rattle.mz_collections.specs.CollectionBook.{collections_of}
use Rattle.mz_collections.specs.Kept.{AreAtRest}
use Rattle.mz_collections.proofs.Peeked.{peek_more}
use Rattle.mz_collections.proofs.Settling.{both_done, least_of_both}
use Rattle.mz_collections.proofs.Under.{is_it, is_other}

-- ---- with fewer holds and peeks

pub at_rest_less : (hs hs' ps ps' : List Capability) → ((n : ℕ) → least_on n hs ≡ Done → least_on n hs' ≡ Done) → ((n : ℕ) → least_on n ps ≡ Done → least_on n ps' ≡ Done)
    → (ss : List Settled) → AreAtRest hs ps ss → AreAtRest hs' ps' ss
at_rest_less hs hs' ps ps' f g [] r = tt
at_rest_less hs hs' ps ps' f g (s ∷ ss) r = (
  (λ d. record { implied = (r.0 d).implied; hold = f s.collection.number (r.0 d).hold; peek = g s.collection.number (r.0 d).peek; reader = (r.0 d).reader }),
  at_rest_less hs hs' ps ps' f g ss r.1,
)

-- none of them keeps it: not the first, and none behind
pub none_on : (n : ℕ) (one : Capability) (kept : List Capability) → least_on n (one ∷ kept) ≡ Done → ((one.collection == n) ≡ false) × (least_on n kept ≡ Done)
none_on n one kept e = by (one.collection == n) refl
  where
    by : (b : Bool) → (one.collection == n) ≡ b → ((one.collection == n) ≡ false) × (least_on n kept ≡ Done)
    by true k =
        let none : At one.time ≡ Done = (both_done (At one.time) (least_on n kept) (sym (is_it (one.collection == n) (meet (At one.time) (least_on n kept)) (least_on n kept) k) ∙ e)).0 in
        absurd (cc)
    by false k = (k, sym (is_other (one.collection == n) (meet (At one.time) (least_on n kept)) (least_on n kept) k) ∙ e)

pub none_more : (n : ℕ) (one : Capability) (kept : List Capability) → (one.collection == n) ≡ false → least_on n kept ≡ Done → least_on n (one ∷ kept) ≡ Done
none_more n one kept k e = is_other (one.collection == n) (meet (At one.time) (least_on n kept)) (least_on n kept) k ∙ e

none_behind : (n : ℕ) (one : Capability) (kept : List Capability) → (one.collection == n) ≡ false → least_on n kept ≡ Done → least_on n (kept ++ one ∷ []) ≡ Done
none_behind n one [] k e = none_more n one [] k refl
none_behind n one (x ∷ kept) k e = let p = none_on n x kept e in none_more n x (kept ++ one ∷ []) p.0 (none_behind n one kept k p.1)

pub fewer_held : (m n : ℕ) (xs : List Hold) → least_on n (map of_hold xs) ≡ Done → least_on n (map of_hold (filter (λ hold. not (hold.number == m)) xs)) ≡ Done
fewer_held m n [] e = refl
fewer_held m n (x ∷ xs) e =
    let p = none_on n (of_hold x) (map of_hold xs) e in
    by (x.number == m) p.0 (fewer_held m n xs p.1)
  where
    by : (a : Bool) → (x.collection == n) ≡ false → least_on n (map of_hold (filter (λ hold. not (hold.number == m)) xs)) ≡ Done
        → least_on n (map of_hold (cond (not a) (x ∷ filter (λ hold. not (hold.number == m)) xs) (filter (λ hold. not (hold.number == m)) xs))) ≡ Done
    by true k ih = ih
    by false k ih = none_more n (of_hold x) (map of_hold (filter (λ hold. not (hold.number == m)) xs)) k ih

pub moved_held : (m t n : ℕ) (xs : List Hold) → least_on n (map of_hold xs) ≡ Done → least_on n (map of_hold (map (at_time m t) xs)) ≡ Done
moved_held m t n [] e = refl
moved_held m t n (x ∷ xs) e =
    let p = none_on n (of_hold x) (map of_hold xs) e in
    by (x.number == m) p.0 (moved_held m t n xs p.1)
  where
    by : (a : Bool) → (x.collection == n) ≡ false → least_on n (map of_hold (map (at_time m t) xs)) ≡ Done
        → least_on n (of_hold (cond a (record x { time = t }) x) ∷ map of_hold (map (at_time m t) xs)) ≡ Done
    by true k ih = none_more n (of_hold (record x { time = t })) (map of_hold (map (at_time m t) xs)) k ih
    by false k ih = none_more n (of_hold x) (map of_hold (map (at_time m t) xs)) k ih

-- ---- with one more on a collection that isn't done

-- each is found under its number
pub own_since : (k : ℕ) (ss : List Settled) → Numbered k (collections_of ss) → Each (λ s. (k ≤ s.collection.number) × (since_or (At 0) s.collection.number ss ≡ s.since)) ss
own_since k [] num = tt
own_since k (x ∷ ss) num = (
  (omega (arith, num.0), is_it (x.collection.number == x.collection.number) x.since (since_or (At 0) x.collection.number ss) (grind (arith, nat_tests))),
  each_of (λ s. (k + 1 ≤ s.collection.number) × (since_or (At 0) s.collection.number ss ≡ s.since))
      (λ s. (k ≤ s.collection.number) × (since_or (At 0) s.collection.number (x ∷ ss) ≡ s.since))
      (λ s p. (omega (arith, p.0), is_other (x.collection.number == s.collection.number) x.since (since_or (At 0) s.collection.number ss) (grind (arith, nat_tests, num.0, p.0)) ∙ p.1))
      ss (own_since (k + 1) ss num.1),
)

-- one that is readable at a time isn't done
pub readable : (k n t : ℕ) (ss : List Settled) → Numbered k (collections_of ss) → Le (since_or (At 0) n ss) (At t) → Each (λ s. s.since ≡ Done → (n == s.collection.number) ≡ false) ss
readable k n t ss num h =
    each_of (λ s. (k ≤ s.collection.number) × (since_or (At 0) s.collection.number ss ≡ s.since)) (λ s. s.since ≡ Done → (n == s.collection.number) ≡ false)
    (λ s p d. by s (n == s.collection.number) refl p.1 d) ss (own_since k ss num)
  where
    by : (s : Settled) (b : Bool) → (n == s.collection.number) ≡ b → since_or (At 0) s.collection.number ss ≡ s.since → s.since ≡ Done → (n == s.collection.number) ≡ false
    by s true e p d =
        let same : n ≡ s.collection.number = grind (arith, nat_tests, e) in
        absurd (subst (λ f. Le f (At t)) (ap (λ m. since_or (At 0) m ss) same ∙ p ∙ d) h)
    by s false e p d = e

pub at_rest_held : (hs ps : List Capability) (one : Capability) (ss : List Settled) → Each (λ s. s.since ≡ Done → (one.collection == s.collection.number) ≡ false) ss
    → AreAtRest hs ps ss → AreAtRest (hs ++ one ∷ []) ps ss
at_rest_held hs ps one [] q r = tt
at_rest_held hs ps one (s ∷ ss) q r = (
  (λ d. record {
    implied = (r.0 d).implied;
    hold = none_behind s.collection.number one hs (q.0 d) (r.0 d).hold;
    peek = (r.0 d).peek;
    reader = (r.0 d).reader;
  }),
  at_rest_held hs ps one ss q.1 r.1,
)

pub at_rest_peeked : (hs ps : List Capability) (one : Capability) (ss : List Settled) → Each (λ s. s.since ≡ Done → (one.collection == s.collection.number) ≡ false) ss
    → AreAtRest hs ps ss → AreAtRest hs (ps ++ one ∷ []) ss
at_rest_peeked hs ps one [] q r = tt
at_rest_peeked hs ps one (s ∷ ss) q r = (
  (λ d. record {
    implied = (r.0 d).implied;
    hold = (r.0 d).hold;
    peek = none_behind s.collection.number one ps (q.0 d) (r.0 d).peek;
    reader = (r.0 d).reader;
  }),
  at_rest_peeked hs ps one ss q.1 r.1,
)

-- ---- once settled

pub at_rest_settled : (hs ps : List Capability) (cs : List Collection) → AreAtRest hs ps (settle (hs ++ ps) cs)
at_rest_settled hs ps [] = tt
at_rest_settled hs ps (c ∷ cs) = (
  (λ d.
      let both = both_done (own (hs ++ ps) c) (least_reader c.number (settle (hs ++ ps) cs)) d in
      let mine = both_done c.implied (least_on c.number (hs ++ ps)) both.0 in
      let parts = both_done (least_on c.number hs) (least_on c.number ps) (sym (least_of_both c.number hs ps) ∙ mine.1) in
      record { implied = mine.0; hold = parts.0; peek = parts.1; reader = both.1 }),
  at_rest_settled hs ps cs,
)

-- ---- tables of holds

-- a hold more on one that is readable
pub rest_held : (live live' : List Hold) (ps : List Capability) (x : Hold) (t : ℕ) (ss : List Settled) → Numbered 1 (collections_of ss) → Le (since_or (At 0) x.collection ss) (At t)
    → live' ≡ live ++ x ∷ [] → AreAtRest (map of_hold live) ps ss → AreAtRest (map of_hold live') ps ss
rest_held live live' ps x t ss num h e r =
    subst (λ hs. AreAtRest hs ps ss) (sym (ap (map of_hold) e ∙ peek_more x live)) (at_rest_held (map of_hold live) ps (of_hold x) ss (readable 1 x.collection t ss num h) r)

-- a peek more
pub rest_peeked : (hs : List Capability) (live live' : List Hold) (x : Hold) (t : ℕ) (ss : List Settled) → Numbered 1 (collections_of ss) → Le (since_or (At 0) x.collection ss) (At t)
    → live' ≡ live ++ x ∷ [] → AreAtRest hs (map of_hold live) ss → AreAtRest hs (map of_hold live') ss
rest_peeked hs live live' x t ss num h e r =
    subst (λ ps. AreAtRest hs ps ss) (sym (ap (map of_hold) e ∙ peek_more x live)) (at_rest_peeked hs (map of_hold live) (of_hold x) ss (readable 1 x.collection t ss num h) r)
