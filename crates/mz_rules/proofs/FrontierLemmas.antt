-- Laws of the order of frontiers that sinces and streams need beside those of times.
use Rattle.std.proofs.Common.{ℕ, ◌≡◌, ◌≤◌, true, false, refl, arith}
use Rattle.std.proofs.lemmas.Bool.{false≢true, leb-false, leb-true}
use Rattle.mz_time.specs.declared.frontier.Frontier.{Frontier}
use Rattle.mz_time.specs.declared.frontier.Frontier.TheVariants.{At, Done}
use Rattle.mz_time.specs.Frontier.{Le, meet}
use Rattle.mz_time.proofs.FrontierLemmas.{Le-trans, Le-Done, meet-Le_left, meet-Le_right, meet-greatest}
use Rattle.mz_rules.specs.Frontiers.{is_le, is_at, IsWithin}

-- time 0 is before all
pub zero_least : (f : Frontier) → Le (At 0) f
zero_least (At t) = omega arith
zero_least Done = tt

-- what the test finds is at or before
pub is_le_Le : (f g : Frontier) → is_le f g ≡ true → Le f g
is_le_Le (At t) (At u) e = let less = leb-true t u e in omega arith
is_le_Le (At t) Done e = tt
is_le_Le Done (At u) e = absurd (false≢true e)
is_le_Le Done Done e = tt

-- what the test refuses is after
pub not_is_le : (f g : Frontier) → is_le f g ≡ false → Le g f
not_is_le (At t) (At u) e = let less = leb-false t u e in omega arith
not_is_le (At t) Done e = absurd (false≢true (cc))
not_is_le Done g e = Le-Done g

-- the lesser of two is within what both are
pub within_meet : (bound : ℕ) (f g : Frontier) → IsWithin bound f → IsWithin bound g → IsWithin bound (meet f g)
within_meet b (At t) (At u) p q = omega arith
within_meet b (At t) Done p q = p
within_meet b Done g p q = q

-- what is within a bound is within a greater one
pub within_more : (bound more : ℕ) (f : Frontier) → bound ≤ more → IsWithin bound f → IsWithin more f
within_more b m (At t) h p = omega arith
within_more b m Done h p = tt

-- a time within a bound is at or before it
pub within_at : (bound : ℕ) (f : Frontier) → is_at f ≡ true → IsWithin bound f → Le f (At bound)
within_at b (At t) e p = p
within_at b Done e p = absurd (false≢true e)

-- what is before a time is a time
pub at_earlier : (f g : Frontier) → Le f g → is_at g ≡ true → is_at f ≡ true
at_earlier (At t) g p e = refl
at_earlier Done (At u) p e = absurd p
at_earlier Done Done p e = e

-- the lesser of two falls with both
pub meet_keeps : (f g h k : Frontier) → Le f h → Le g k → Le (meet f g) (meet h k)
meet_keeps f g h k p q =
    meet-greatest (meet f g) h k (Le-trans (meet f g) f h (meet-Le_left f g) p) (Le-trans (meet f g) g k (meet-Le_right f g) q)
