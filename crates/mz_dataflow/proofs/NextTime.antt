-- The first time of lists that are in order of time.
use Rattle.std.proofs.Common.{◌≡◌, ℕ, ◌<◌, ◌≤◌, nat_le, Bool, true, false, cond, List, [], ◌∷◌, Option, None, Some, refl, sym, ap, ◌∙◌, arith}
use Rattle.std.proofs.lemmas.Bool.Decides.{nat_tests}
use Rattle.std.specs.Bool.{⊤}
use Rattle.std.specs.List.{AllByRecursion as Each}
use Rattle.std.specs.List.Sorted.{IsStrictlySortedBy}
use Rattle.mz_updates.specs.declared.update.Update.{Update}
use Rattle.mz_updates.specs.Consolidated.{IsConsolidated}
use Rattle.mz_updates.specs.Contents.{IsFrom}
use Rattle.mz_ops.specs.Moments.{lesser}
use Rattle.mz_ops.specs.Stepping.{IsToCome}
use Rattle.mz_ops.proofs.Runs.{is_first}
use Rattle.mz_ops.proofs.TimeLaws.{IsFrom-earlier}
use Rattle.mz_dataflow.specs.Queues.{begins, next_time, sooner, AreToCome}

-- a time is no later than another, where there is one
abbrev pub IsNoLater : ℕ → Option ℕ → Type 0
IsNoLater time None = ⊤
IsNoLater time (Some other) = time ≤ other

-- the time that is there
abbrev pub time_of : Option ℕ → ℕ
time_of None = 0
time_of (Some t) = t

-- the sooner of two is no later than either
sooner_low : (a b : Option ℕ) (time : ℕ) → sooner a b ≡ Some time → IsNoLater time a × IsNoLater time b
sooner_low None None time h = (tt, tt)
sooner_low None (Some u) time h = let same : u ≡ time = ap time_of h in (tt, omega (arith, same))
sooner_low (Some t) None time h = let same : t ≡ time = ap time_of h in (omega (arith, same), tt)
sooner_low (Some t) (Some u) time h = by (nat_le t u) refl (ap time_of h)
  where
    by : (c : Bool) → nat_le t u ≡ c → cond c t u ≡ time → (time ≤ t) × (time ≤ u)
    by true e k = let less : t ≤ u = grind (arith, nat_tests) in (omega (arith, k), omega (arith, k, less))
    by false e k = let less : u < t = grind (arith, nat_tests) in (omega (arith, k, less), omega (arith, k))

-- no updates are consolidated
pub none_once : IsConsolidated []
unfolding IsStrictlySortedBy
none_once = record { in_order = tt; no_zero = tt }

-- updates whose first is no earlier than a time are from it on
from_begins : (us : List Update) (time : ℕ) → IsConsolidated us → IsNoLater time (begins us) → IsFrom time us
from_begins [] time h later = record { each = tt }
from_begins (u ∷ us) time h later = IsFrom-earlier u.time time (u ∷ us) later (is_first u.time (u ∷ us) [] h none_once refl).left

-- the first time of some lists is no later than that of each
pub next_from : (qs : List (ℕ × List Update)) (time : ℕ) → Each (λ q. IsConsolidated q.1) qs → IsNoLater time (next_time qs)
    → Each (λ q. IsFrom time q.1) qs
next_from [] time h later = tt
next_from (q ∷ qs) time h later =
    let parts = low (begins q.1) (next_time qs) later in
    (from_begins q.1 time h.0 parts.0, next_from qs time h.1 parts.1)
  where
    low : (a b : Option ℕ) → IsNoLater time (sooner a b) → IsNoLater time a × IsNoLater time b
    low None None k = (tt, tt)
    low None (Some u) k = (tt, k)
    low (Some t) None k = (k, tt)
    low (Some t) (Some u) k =
        let both = sooner_low (Some t) (Some u) (lesser t u) refl in
        (omega (arith, k, both.0), omega (arith, k, both.1))

-- where there is none, all lists are empty
pub next_none : (qs : List (ℕ × List Update)) → next_time qs ≡ None → Each (λ q. q.1 ≡ []) qs
next_none [] h = tt
next_none (q ∷ qs) h = by q.1 (next_time qs) refl h (next_none qs)
  where
    by : (us : List Update) (o : Option ℕ) → q.1 ≡ us → sooner (begins us) o ≡ None → (o ≡ None → Each (λ r. r.1 ≡ []) qs)
        → (q.1 ≡ []) × Each (λ r. r.1 ≡ []) qs
    by [] o e k rest = (e, rest k)
    by (u ∷ us) None e k rest = absurd cc
    by (u ∷ us) (Some t) e k rest = absurd cc

-- the first time is from where the lists are to come from on, and below where they end
pub next_within : (lower upper : ℕ) (qs : List (ℕ × List Update)) (time : ℕ) → AreToCome lower upper qs → next_time qs ≡ Some time
    → (lower ≤ time) × (time < upper)
next_within lower upper [] time h is = absurd cc
next_within lower upper (q ∷ qs) time h is = by q.1 (next_time qs) refl h.0 (next_within lower upper qs) is
  where
    here : (u : Update) (us : List Update) → IsToCome lower upper (u ∷ us) → u.time ≡ time → (lower ≤ time) × (time < upper)
    here u us k same = (omega (arith, same, k.from.each.0), omega (arith, same, k.before.each.0))

    both : (v t : ℕ) (c : Bool) → cond c v t ≡ time → lower ≤ v → v < upper → lower ≤ t → t < upper → (lower ≤ time) × (time < upper)
    both v t true same l g m n = (omega (arith, same, l), omega (arith, same, g))
    both v t false same l g m n = (omega (arith, same, m), omega (arith, same, n))

    by : (us : List Update) (o : Option ℕ) → o ≡ next_time qs → IsToCome lower upper us
        → ((t : ℕ) → AreToCome lower upper qs → next_time qs ≡ Some t → (lower ≤ t) × (t < upper))
        → sooner (begins us) o ≡ Some time → (lower ≤ time) × (time < upper)
    by [] o e k rest f = rest time h.1 (sym e ∙ f)
    by (u ∷ us) None e k rest f = here u us k (ap time_of f)
    by (u ∷ us) (Some t) e k rest f =
        let others = rest t h.1 (sym e) in
        both u.time t (nat_le u.time t) (ap time_of f) k.from.each.0 k.before.each.0 others.0 others.1
