-- No since falls: the law looked up by number, from the collections and capabilities alone.
use Rattle.std.proofs.Common.{◌≡◌, ℕ, ◌≤◌, List, sym, subst}
use Rattle.std.specs.List.{AllByRecursion as Each}
use Rattle.mz_time.specs.declared.frontier.Frontier.{Frontier}
use Rattle.mz_time.specs.declared.frontier.Frontier.TheVariants.{At}
use Rattle.mz_time.specs.Frontier.{Le}
use Rattle.mz_time.proofs.FrontierLemmas.{Le-refl}
use Rattle.mz_rules.specs.declared.capability.Collection.{Collection}
use Rattle.mz_rules.specs.Capabilities.{Capability}
use Rattle.mz_rules.specs.Since.{settle, since_or}
use Rattle.mz_rules.specs.Numbering.{Numbered, Grows}
use Rattle.mz_rules.proofs.Each.{each_of}
use Rattle.mz_rules.proofs.Growing.{grows_same}
use Rattle.mz_rules.proofs.Numbers.{own_place}
use Rattle.mz_rules.proofs.Sinces.{NoneFalls, none_falls, looked_up, still_from_as_of}

-- each since is at most that under its number
pub bound_by : (missing : Frontier) (kept : List Capability) (first : ℕ) (cs : List Collection) → Numbered first cs
    → Each (λ s. Le s.since (since_or missing s.collection.number (settle kept cs))) (settle kept cs)
bound_by missing kept first cs n =
    each_of (λ s. (first ≤ s.collection.number) × (since_or missing s.collection.number (settle kept cs) ≡ s.since))
    (λ s. Le s.since (since_or missing s.collection.number (settle kept cs)))
    (λ s p. subst (λ f. Le s.since f) (sym p.1) (Le-refl s.since)) (settle kept cs) (own_place missing kept first cs n)

-- each is found under its number
pub found_at : (missing : Frontier) (kept : List Capability) (first : ℕ) (cs : List Collection) → Numbered first cs
    → Each (λ s. since_or missing s.collection.number (settle kept cs) ≡ s.since) (settle kept cs)
found_at missing kept first cs n =
    each_of (λ s. (first ≤ s.collection.number) × (since_or missing s.collection.number (settle kept cs) ≡ s.since))
    (λ s. since_or missing s.collection.number (settle kept cs) ≡ s.since) (λ s p. p.1) (settle kept cs) (own_place missing kept first cs n)

-- what was settled before and after, where each capability after is at or after the since before of its collection
falls_none : (first time : ℕ) (before after : List Capability) (cs ds : List Collection) → Numbered first cs
    → Each (λ one. Le (since_or (At time) one.collection (settle before cs)) (At one.time)) after
    → Grows (λ number. since_or (At time) number (settle before cs)) time cs ds
    → NoneFalls (λ number. since_or (At time) number (settle before cs)) time (settle before cs) (settle after ds)
falls_none first time before after cs ds n above grows =
    none_falls (λ number. since_or (At time) number (settle before cs)) time before after above cs ds (bound_by (At time) before first cs n) grows

-- then no since falls
pub sinces_rise : (first time : ℕ) (before after : List Capability) (cs ds : List Collection) → Numbered first cs
    → Each (λ one. Le (since_or (At time) one.collection (settle before cs)) (At one.time)) after
    → Grows (λ number. since_or (At time) number (settle before cs)) time cs ds
    → (number : ℕ) → Le (since_or (At 0) number (settle before cs)) (since_or (At 0) number (settle after ds))
sinces_rise first time before after cs ds n above grows =
    looked_up (λ number. since_or (At time) number (settle before cs)) time (settle before cs) (settle after ds)
    (falls_none first time before after cs ds n above grows)

-- and each is from the as-of on, still
pub as_ofs_stay : (first time : ℕ) (before after : List Capability) (cs ds : List Collection) → Numbered first cs
    → Each (λ one. Le (since_or (At time) one.collection (settle before cs)) (At one.time)) after
    → Grows (λ number. since_or (At time) number (settle before cs)) time cs ds
    → Each (λ s. Le (At s.collection.as_of) s.since) (settle before cs) → Each (λ s. Le (At s.collection.as_of) s.since) (settle after ds)
as_ofs_stay first time before after cs ds n above grows =
    still_from_as_of (λ number. since_or (At time) number (settle before cs)) time (settle before cs) (settle after ds)
    (falls_none first time before after cs ds n above grows)

-- the collections may stay as they are
pub same_rise : (first : ℕ) (before after : List Capability) (cs : List Collection) → Numbered first cs
    → Each (λ one. Le (since_or (At 0) one.collection (settle before cs)) (At one.time)) after
    → (number : ℕ) → Le (since_or (At 0) number (settle before cs)) (since_or (At 0) number (settle after cs))
same_rise first before after cs n above =
    sinces_rise first 0 before after cs cs n above (grows_same (λ number. since_or (At 0) number (settle before cs)) 0 cs)
