-- Own capabilities, and the live ones among collections.
use Rattle.std.proofs.Common.{◌≡◌, ℕ, ◌==◌, Bool, true, false, cond, List, [], ◌∷◌, ◌++◌, refl, sym, ap, ◌∙◌}
use Rattle.std.proofs.lemmas.Bool.{false≢true}
use Rattle.std.specs.List.{AllByRecursion as Each}
use Rattle.mz_time.specs.declared.frontier.Frontier.{Frontier}
use Rattle.mz_time.specs.declared.frontier.Frontier.TheVariants.{At, Done}
use Rattle.mz_time.specs.Frontier.{meet}
use Rattle.mz_time.proofs.FrontierLemmas.{meet_assoc}
use Rattle.mz_rules.specs.declared.capability.Settled.{Settled}
use Rattle.mz_rules.specs.Capabilities.{Capability}
use Rattle.mz_rules.specs.Frontiers.{is_at}
use Rattle.mz_rules.specs.Since.{least_on}
use Rattle.mz_collections.specs.Kept.{live_of}

-- of capabilities in a row the least is the lesser of theirs
pub least_of_both : (n : ℕ) (xs ys : List Capability) → least_on n (xs ++ ys) ≡ meet (least_on n xs) (least_on n ys)
least_of_both n [] ys = refl
least_of_both n (x ∷ xs) ys = by (x.collection == n) (least_of_both n xs ys)
  where
    by : (b : Bool) → least_on n (xs ++ ys) ≡ meet (least_on n xs) (least_on n ys)
        → cond b (meet (At x.time) (least_on n (xs ++ ys))) (least_on n (xs ++ ys)) ≡ meet (cond b (meet (At x.time) (least_on n xs)) (least_on n xs)) (least_on n ys)
    by true ih = ap (meet (At x.time)) ih ∙ sym (meet_assoc (At x.time) (least_on n xs) (least_on n ys))
    by false ih = ih

-- where the lesser is done both are
pub both_done : (f g : Frontier) → meet f g ≡ Done → (f ≡ Done) × (g ≡ Done)
both_done (At t) (At u) e = absurd (cc)
both_done (At t) Done e = absurd (cc)
both_done Done g e = (refl, e)

pub not_at : (f : Frontier) → is_at f ≡ false → f ≡ Done
not_at (At t) e = absurd (false≢true (sym e))
not_at Done e = refl

pub at_done : (f : Frontier) → is_at f ≡ true → f ≡ Done → ⊥
at_done (At t) e d = cc
at_done Done e d = absurd (false≢true e)

-- ---- the live ones

pub live_here : (s : Settled) (ss : List Settled) → is_at s.since ≡ true → live_of (s ∷ ss) ≡ s.collection.number ∷ live_of ss
live_here s ss e = ap (λ b. cond b (s.collection.number ∷ live_of ss) (live_of ss)) e

pub live_later : (s : Settled) (ss : List Settled) → is_at s.since ≡ false → live_of (s ∷ ss) ≡ live_of ss
live_later s ss e = ap (λ b. cond b (s.collection.number ∷ live_of ss) (live_of ss)) e

pub live_both : (xs ys : List Settled) → live_of (xs ++ ys) ≡ live_of xs ++ live_of ys
live_both [] ys = refl
live_both (x ∷ xs) ys = by (is_at x.since) (live_both xs ys)
  where
    by : (b : Bool) → live_of (xs ++ ys) ≡ live_of xs ++ live_of ys
        → cond b (x.collection.number ∷ live_of (xs ++ ys)) (live_of (xs ++ ys)) ≡ cond b (x.collection.number ∷ live_of xs) (live_of xs) ++ live_of ys
    by true ih = ap (λ ns. x.collection.number ∷ ns) ih
    by false ih = ih

-- where none is live each is done
pub all_done : (ss : List Settled) → live_of ss ≡ [] → Each (λ s. is_at s.since ≡ false) ss
all_done [] e = tt
all_done (s ∷ ss) e = by (is_at s.since) refl (all_done ss)
  where
    by : (b : Bool) → is_at s.since ≡ b → (live_of ss ≡ [] → Each (λ x. is_at x.since ≡ false) ss) → (is_at s.since ≡ false) × Each (λ x. is_at x.since ≡ false) ss
    by true k ih = absurd (nil (sym (live_here s ss k) ∙ e))
      where
        nil : (s.collection.number ∷ live_of ss) ≡ [] → ⊥
        nil q = cc
    by false k ih = (k, ih (sym (live_later s ss k) ∙ e))
