-- What a step hands on weighs little: at each time no more than what was made before it and at it.
use Rattle.std.proofs.Common.{◌≡◌, ◌≢◌, ℕ, ◌+◌, ◌<◌, ◌≤◌, ◌==◌, Bool, true, false, cond, pos, ◌+ℤ◌, List, [], ◌∷◌, ◌++◌, refl, sym, ap, ◌∙◌, arith}
use Rattle.std.proofs.lemmas.Bool.Decides.{nat_tests}
use Rattle.std.proofs.lemmas.Int.{ints}
use Rattle.std.specs.List.{AllByRecursion as Each, IsDistinct}
use Rattle.std.specs.List.Sorted.{IsStrictlySortedBy}
use Rattle.std.specs.Map.{keys_of}
use Rattle.std.specs.declared.cmp.Ordering.TheVariants.{Less}
use Rattle.mz_value.specs.Row.{row_eq}
use Rattle.mz_bag.specs.Mass.{mass}
use Rattle.mz_bag.specs.Weighted.{Weighted, count}
use Rattle.mz_bag.proofs.BagLaws.{count-append}
use Rattle.mz_plan_laws.proofs.PlanMasses.{change_mass}
use Rattle.mz_updates.specs.declared.update.Update.{Update}
use Rattle.mz_updates.specs.Consolidated.{update_cmp, IsConsolidated}
use Rattle.mz_updates.specs.Contents.{weights, contents, at, changes, IsBefore, IsFrom}
use Rattle.mz_updates.proofs.ContentsLaws.{contents-before, count-next}
use Rattle.mz_updates.proofs.RowBags.{consolidated_once}
use Rattle.mz_ops.specs.Change.{Meaning, Standing}
use Rattle.mz_ops.specs.Step.{IsStep, StandsBefore}

-- ---- what changes at one time, each row once

-- what holds of all holds of those at a time
each_at : (P : Update → Type 0) (t : ℕ) (us : List Update) → Each P us → Each P (at t us)
each_at P t [] h = tt
each_at P t (u ∷ us) h = by (u.time == t) (each_at P t us h.1)
  where
    by : (c : Bool) → Each P (at t us) → Each P (cond c (u ∷ at t us) (at t us))
    by true k = (h.0, k)
    by false k = k

order_at : (t : ℕ) (us : List Update) → IsStrictlySortedBy update_cmp us → IsStrictlySortedBy update_cmp (at t us)
unfolding IsStrictlySortedBy
order_at t [] h = tt
order_at t (u ∷ us) h = by (u.time == t) (order_at t us h.1)
  where
    by : (c : Bool) → IsStrictlySortedBy update_cmp (at t us) → IsStrictlySortedBy update_cmp (cond c (u ∷ at t us) (at t us))
    by true k = (each_at (λ w. update_cmp u w ≡ Less) t us h.0, k)
    by false k = k

-- those at a time are from it on, and before the next
there_at : (t : ℕ) (us : List Update) → Each (λ u. u.time ≡ t) (at t us)
there_at t [] = tt
there_at t (u ∷ us) = by (u.time == t) refl (there_at t us)
  where
    by : (c : Bool) → (u.time == t) ≡ c → Each (λ u. u.time ≡ t) (at t us) → Each (λ u. u.time ≡ t) (cond c (u ∷ at t us) (at t us))
    by true e k = (grind (arith, nat_tests), k)
    by false e k = k

from_there : (t : ℕ) (us : List Update) → Each (λ u. u.time ≡ t) us → Each (λ u. t ≤ u.time) us
from_there t [] h = tt
from_there t (u ∷ us) h = (omega (arith, h.0), from_there t us h.1)

before_there : (t : ℕ) (us : List Update) → Each (λ u. u.time ≡ t) us → Each (λ u. u.time < t + 1) us
before_there t [] h = tt
before_there t (u ∷ us) h = (omega (arith, h.0), before_there t us h.1)

changes_once : (t : ℕ) (us : List Update) → IsConsolidated us → IsDistinct row_eq (keys_of (changes t us))
changes_once t us h = consolidated_once t (at t us) (record { each = from_there t (at t us) (there_at t us) })
    (record { each = before_there t (at t us) (there_at t us) })
    (record { in_order = order_at t us h.in_order; no_zero = each_at (λ u. u.diff ≢ pos 0) t us h.no_zero })

-- ---- what a step hands on

pub output_mass : (meaning : Meaning) (stands : Standing) (after : List Update → List Update → Type 0) (upper t : ℕ)
    (us vs left right out : List Update) → IsStep meaning (StandsBefore upper stands) after left right out → StandsBefore upper stands us vs
    → IsConsolidated out → upper ≤ t + 1
    → mass (changes (t + 1) out) ≤ mass (meaning (contents t (us ++ left)) (contents t (vs ++ right)))
    + mass (meaning (contents (t + 1) (us ++ left)) (contents (t + 1) (vs ++ right)))
output_mass meaning stands after upper t us vs left right out step told once late =
    change_mass (meaning (contents t (us ++ left)) (contents t (vs ++ right))) (meaning (contents (t + 1) (us ++ left)) (contents (t + 1) (vs ++ right)))
    (changes (t + 1) out) (changes_once (t + 1) out once)
    (λ q.
    let now = step.gives us vs told t q in
    let then = step.gives us vs told (t + 1) q in
    let still : count q (meaning (contents (t + 1) us) (contents (t + 1) vs)) ≡ count q (meaning (contents t us) (contents t vs)) =
    (λ i. count q (meaning ((contents-before (t + 1) upper us told.left (omega (arith, late)) ∙ sym (contents-before t upper us told.left (omega (arith, late)))) i)
    ((contents-before (t + 1) upper vs told.right (omega (arith, late)) ∙ sym (contents-before t upper vs told.right (omega (arith, late)))) i))) in
    omega (
      arith,
      ints,
      now,
      then,
      still,
      count-append q (meaning (contents t us) (contents t vs)) (contents t out),
      count-append q (meaning (contents (t + 1) us) (contents (t + 1) vs)) (contents (t + 1) out),
      count-next t q out,
      count-append q (meaning (contents t (us ++ left)) (contents t (vs ++ right))) (changes (t + 1) out),
    ))
