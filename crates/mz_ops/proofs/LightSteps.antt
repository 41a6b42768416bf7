-- Where the updates of both sides weigh little in all, each step is within the bound.
use Rattle.std.proofs.Common.{◌≡◌, ℕ, zero, suc, ◌+◌, ◌≤◌, ◌^◌, ◌==◌, add-one, nat_le, Bool, true, false, cond, nat_abs, ◌+ℤ◌, List, [], ◌∷◌, ◌++◌, filter, refl, sym, ap, subst, ◌∙◌, le_trans, arith}
use Rattle.std.proofs.lemmas.Int.{ints}
use Rattle.std.proofs.lemmas.List.{append-nil}
use Rattle.mz_bag.specs.Mass.{mass}
use Rattle.mz_bag.specs.Weighted.{Weighted, count}
use Rattle.mz_bag.proofs.BagLaws.{count-append}
use Rattle.mz_bag.proofs.MassLaws.{mass_append}
use Rattle.mz_plan_laws.specs.Alike.{Alike}
use Rattle.mz_updates.specs.declared.update.Update.{Update}
use Rattle.mz_updates.specs.Contents.{weights, contents, changes, IsFrom}
use Rattle.mz_updates.proofs.ContentsLaws.{contents-from, count-at_first, count-at_next}
use Rattle.mz_ops.specs.Change.{IsLoad}
use Rattle.mz_ops.specs.Step.{IsBearableStep, Side}

-- a part of updates weighs no more than all
part_mass : (p : Update → Bool) (us : List Update) → mass (weights (filter p us)) ≤ mass (weights us)
part_mass p [] = omega arith
part_mass p (u ∷ us) = by (p u) (part_mass p us)
  where
    by : (c : Bool) → mass (weights (filter p us)) ≤ mass (weights us) → mass (weights (cond c (u ∷ filter p us) (filter p us))) ≤ nat_abs u.diff + mass (weights us)
    by true h = omega (arith, h)
    by false h = omega (arith, h)

-- rows before a time: some, and what updates contain by then
abbrev by_then : Weighted → List Update → ℕ → Weighted
by_then ws us zero = ws
by_then ws us (suc t) = ws ++ contents t us

-- with what changes at the time they are the rows after it
by_then-next : (ws : Weighted) (us : List Update) (t : ℕ) → Alike (by_then ws us (t + 1)) (by_then ws us t ++ changes t us)
by_then-next ws us zero q = count-append q ws (contents 0 us) ∙ ap (λ z. count q ws +ℤ z) (count-at_first q us) ∙ sym (count-append q ws (changes 0 us))
by_then-next ws us (suc t) q =
    (λ i. count q (by_then ws us (add-one (suc t) i)))
    ∙ count-append q ws (contents (suc t) us) ∙ ap (λ z. count q ws +ℤ z) (count-at_next t q us)
    ∙ sym (count-append q (ws ++ contents t us) (changes (suc t) us) ∙ ap (λ z. z +ℤ count q (changes (suc t) us)) (count-append q ws (contents t us)) ∙ omega (arith, ints))

-- so they are a side
unfoldable side_of : (ws : Weighted) (us : List Update) → Side us
side_of ws us = record { rows = by_then ws us; change = λ t. changes t us; changes = λ t q. refl; next = by_then-next ws us }

-- before the first update they are those rows
by_then-from : (ws : Weighted) (us : List Update) (t : ℕ) → IsFrom t us → by_then ws us t ≡ ws
by_then-from ws us zero h = refl
by_then-from ws us (suc t) h = ap (λ vs. ws ++ vs) (contents-from t (suc t) us h (omega arith)) ∙ append-nil ws

by_then-mass : (ws : Weighted) (us : List Update) (t : ℕ) → mass (by_then ws us t) ≤ mass ws + mass (weights us)
by_then-mass ws us zero = omega arith
by_then-mass ws us (suc t) = omega (arith, mass_append ws (contents t us), part_mass (λ u. nat_le u.time t) us)

pub light_step : (stands : Weighted → Weighted → Type 0) (load : ℕ → ℕ → ℕ → ℕ → ℕ) (upper next : ℕ) (ls rs : Weighted) (left right : List Update)
    → IsLoad load → stands ls rs → IsFrom upper left → IsFrom upper right
    → load (mass ls + mass (weights left)) (mass rs + mass (weights right)) (mass (weights left)) (mass (weights right)) ≤ 2 ^ 100
    → IsBearableStep stands load upper next left right
unfolding side_of
light_step stands load upper next ls rs left right loads stand from from_too within = record {
  first = side_of ls left;
  second = side_of rs right;
  stand = subst (λ (p : Weighted × Weighted). stands p.0 p.1) (sym (λ i. (by_then-from ls left upper from i, by_then-from rs right upper from_too i))) stand;
  within = λ t low high. le_trans
      (loads.grows _ _ _ _ _ _ _ _ (by_then-mass ls left t) (by_then-mass rs right t) (part_mass (λ u. u.time == t) left) (part_mass (λ u. u.time == t) right)) within;
}
