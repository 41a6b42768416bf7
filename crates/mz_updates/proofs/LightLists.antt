-- Parts of a light list are light.
use Rattle.std.proofs.Common.{ℕ, ◌+◌, ◌≤◌, ◌==◌, nat_le, Bool, true, false, cond, List, [], ◌∷◌, filter, nat_abs, le_trans, arith}
use Rattle.mz_bag.specs.Mass.{mass, IsLight}
use Rattle.mz_bag.specs.Weighted.{count}
use Rattle.mz_bag.proofs.MassLaws.{light_fits}
use Rattle.mz_updates.specs.declared.update.Update.{Update}
use Rattle.mz_updates.specs.Contents.{weights, changes, HasSums, IsLightFrom}
use Rattle.mz_updates.proofs.RowBags.{fits_signed}

-- what passes a test weighs no more than all
mass_part : (p : Update → Bool) (us : List Update) → mass (weights (filter p us)) ≤ mass (weights us)
mass_part p [] = omega arith
mass_part p (u ∷ us) = by (p u) (mass_part p us)
  where
    by : (c : Bool) → mass (weights (filter p us)) ≤ mass (weights us) → mass (weights (cond c (u ∷ filter p us) (filter p us))) ≤ nat_abs u.diff + mass (weights us)
    by true h = omega (arith, h)
    by false h = omega (arith, h)

-- so the contents are light at every time
pub light_contents : (since : ℕ) (us : List Update) → IsLight (weights us) → IsLightFrom since us
light_contents since us h = record { light = λ t k. record { within = le_trans (mass_part (λ u. nat_le u.time t) us) h.within } }

-- and what changes is
pub light_sums : (us : List Update) → IsLight (weights us) → HasSums us
light_sums us h = record { fits = λ t row. fits_signed (count row (changes t us)) (light_fits (changes t us) row (record { within = le_trans (mass_part (λ u. u.time == t) us) h.within })) }
