-- What every list of sinces gives, by its definition alone.
use Rattle.std.proofs.Common.{ℕ, ◌≤◌, ◌==◌, List, [], ◌∷◌, refl, sym, subst, arith}
use Rattle.std.specs.List.{AllByRecursion as Each}
use Rattle.std.proofs.lemmas.Bool.{cond_both, cond-true, cond-false, eqb-true, eq-eqb}
use Rattle.mz_time.specs.declared.frontier.Frontier.{Frontier}
use Rattle.mz_time.specs.declared.frontier.Frontier.TheVariants.{At}
use Rattle.mz_time.specs.Frontier.{Le, meet}
use Rattle.mz_rules.specs.Frontiers.{IsWithin}
use Rattle.mz_rules.specs.declared.capability.Settled.{Settled}
use Rattle.mz_rules.specs.declared.capability.Collection.{Collection}
use Rattle.mz_rules.specs.Capabilities.{Capability}
use Rattle.mz_rules.specs.Since.{reads, least_on, least_reader, own, settle, since_or}
use Rattle.mz_time.proofs.FrontierLemmas.{Le-refl, Le-trans, meet-Le_left, meet-Le_right}
use Rattle.mz_rules.proofs.FrontierLemmas.{zero_least, within_meet}
use Rattle.mz_rules.proofs.Each.{each_of}

-- the least on a collection, with one capability more
least_shrinks : (number : ℕ) (s : Capability) (kept : List Capability) → Le (least_on number (s ∷ kept)) (least_on number kept)
least_shrinks number s kept =
    cond_both (s.collection == number) (meet (At s.time) (least_on number kept)) (least_on number kept) (λ f. Le f (least_on number kept))
    (λ e. meet-Le_right (At s.time) (least_on number kept)) (λ e. Le-refl (least_on number kept))

-- it is at or before the one more, where that is on the collection
least_own : (s : Capability) (kept : List Capability) → Le (least_on s.collection (s ∷ kept)) (At s.time)
least_own s kept =
    subst (λ f. Le f (At s.time)) (sym (cond-true _ _ _ (eq-eqb s.collection s.collection refl)))
    (meet-Le_left (At s.time) (least_on s.collection kept))

-- the least on a collection is at or before each capability on it
pub least_below : (kept : List Capability) → Each (λ s. Le (least_on s.collection kept) (At s.time)) kept
least_below [] = tt
least_below (s ∷ kept) = (
  least_own s kept,
  each_of (λ x. Le (least_on x.collection kept) (At x.time)) (λ x. Le (least_on x.collection (s ∷ kept)) (At x.time))
      (λ x p. Le-trans (least_on x.collection (s ∷ kept)) (least_on x.collection kept) (At x.time) (least_shrinks x.collection s kept) p)
      kept (least_below kept),
)

-- a since is at or before the least on its collection
pub since_below : (kept : List Capability) (cs : List Collection) (number : ℕ)
    → Le (since_or (At 0) number (settle kept cs)) (least_on number kept)
since_below kept [] number = zero_least (least_on number kept)
since_below kept (c ∷ cs) number =
    let low : Frontier = meet (own kept c) (least_reader c.number (settle kept cs)) in
    cond_both (c.number == number) low (since_or (At 0) number (settle kept cs)) (λ f. Le f (least_on number kept))
    (λ e. subst (λ n. Le low (least_on n kept)) (eqb-true c.number number e)
    (Le-trans low (own kept c) (least_on c.number kept) (meet-Le_left (own kept c) (least_reader c.number (settle kept cs)))
    (meet-Le_right c.implied (least_on c.number kept))))
    (λ e. since_below kept cs number)

-- each capability is at or after the since of its collection
pub capabilities_hold : (kept : List Capability) (cs : List Collection)
    → Each (λ s. Le (since_or (At 0) s.collection (settle kept cs)) (At s.time)) kept
capabilities_hold kept cs =
    each_of (λ s. Le (least_on s.collection kept) (At s.time)) (λ s. Le (since_or (At 0) s.collection (settle kept cs)) (At s.time))
    (λ s p. Le-trans (since_or (At 0) s.collection (settle kept cs)) (least_on s.collection kept) (At s.time) (since_below kept cs s.collection) p)
    kept (least_below kept)

-- a since is at or before the implied capability
pub implied_holds : (kept : List Capability) (cs : List Collection) → Each (λ s. Le s.since s.collection.implied) (settle kept cs)
implied_holds kept [] = tt
implied_holds kept (c ∷ cs) =
    let low : Frontier = meet (own kept c) (least_reader c.number (settle kept cs)) in (
      Le-trans low (own kept c) c.implied (meet-Le_left (own kept c) (least_reader c.number (settle kept cs)))
          (meet-Le_left c.implied (least_on c.number kept)),
      implied_holds kept cs,
    )

-- the least on a collection passes no time that all capabilities are within
pub least_within : (bound number : ℕ) (kept : List Capability) → Each (λ s. s.time ≤ bound) kept → IsWithin bound (least_on number kept)
least_within bound number [] p = tt
least_within bound number (s ∷ kept) p =
    cond_both (s.collection == number) (meet (At s.time) (least_on number kept)) (least_on number kept) (IsWithin bound)
    (λ e. within_meet bound (At s.time) (least_on number kept) p.0 (least_within bound number kept p.1))
    (λ e. least_within bound number kept p.1)

-- nor does the least since of its readers, where none of theirs does
readers_within : (bound number : ℕ) (ss : List Settled) → Each (λ s. IsWithin bound s.since) ss
    → IsWithin bound (least_reader number ss)
readers_within bound number [] p = tt
readers_within bound number (s ∷ ss) p =
    cond_both (reads number s.collection) (meet s.since (least_reader number ss)) (least_reader number ss) (IsWithin bound)
    (λ e. within_meet bound s.since (least_reader number ss) p.0 (readers_within bound number ss p.1))
    (λ e. readers_within bound number ss p.1)

-- no since passes the time that all capabilities are within
pub sinces_within : (bound : ℕ) (kept : List Capability) (cs : List Collection)
    → Each (λ s. s.time ≤ bound) kept → Each (λ c. IsWithin bound c.implied) cs
    → Each (λ s. IsWithin bound s.since) (settle kept cs)
sinces_within bound kept [] p q = tt
sinces_within bound kept (c ∷ cs) p q =
    let rest = sinces_within bound kept cs p q.1 in (
      within_meet bound (own kept c) (least_reader c.number (settle kept cs))
          (within_meet bound c.implied (least_on c.number kept) q.0 (least_within bound c.number kept p))
          (readers_within bound c.number (settle kept cs) rest),
      rest,
    )

-- what stands for a missing collection, seen from a time at or after it
pub missing_at : (t number : ℕ) (ss : List Settled) → Le (since_or (At 0) number ss) (At t) → Le (since_or (At t) number ss) (At t)
missing_at t number [] p = omega arith
missing_at t number (s ∷ ss) p =
    cond_both (s.collection.number == number) s.since (since_or (At t) number ss) (λ f. Le f (At t))
    (λ e. subst (λ f. Le f (At t)) (cond-true _ _ _ e) p)
    (λ e. missing_at t number ss (subst (λ f. Le f (At t)) (cond-false _ _ _ e) p))
