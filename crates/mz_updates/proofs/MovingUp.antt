-- A loop that moves updates up to a time, one after another.
use Rattle.std.proofs.Common.{◌≡◌, ℕ, ◌+◌, ◌<◌, List, [], ◌∷◌, ◌++◌, take, drop, length, get_or, refl, sym, ap, ◌∙◌, arith}
use Rattle.std.proofs.lemmas.List.{take_more, take_more_set, take_all, drop_more, drop-set-lt, length-set}
use Rattle.std.proofs.lemmas.Grind.{drop_more_same}
use Rattle.std.proofs.Math.ListN.{set}
use Rattle.mz_updates.specs.declared.update.Update.{Update}
use Rattle.mz_updates.specs.Contents.{moved_up, compacted}

-- those before the place are moved, and the others are as they were
pub record AreMoved (since : ℕ) (before now : List Update) (place : ℕ) : Type 0 where
  pub done : take place now ≡ compacted since (take place before)
  pub rest : drop place now ≡ drop place before
  pub same_length : length now ≡ length before

-- one more at the end is one more moved
compacted-push : (since : ℕ) (us : List Update) (u : Update) → compacted since (us ++ u ∷ []) ≡ compacted since us ++ moved_up since u ∷ []
compacted-push since [] u = refl
compacted-push since (v ∷ us) u = ap (λ ws. moved_up since v ∷ ws) (compacted-push since us u)

-- the step of the loop
pub moved_more : (since : ℕ) (before now : List Update) (place : ℕ) (old new : Update) → AreMoved since before now place → place < length before
    → old ≡ get_or now place old → new ≡ moved_up since old → AreMoved since before (set now place new) (place + 1)
moved_more since before now place old new h within is moved =
    let here : drop place now ≡ get_or now place old ∷ drop (place + 1) now = drop_more now place old (omega (arith, within, h.same_length)) in
    let there : drop place before ≡ get_or before place old ∷ drop (place + 1) before = drop_more before place old within in
    let rest : drop place now ≡ drop place before = h.rest in
    let same : old ≡ get_or before place old = cc in
    record {
      done = take_more_set now place new (omega (arith, within, h.same_length))
          ∙ (λ j. h.done j ++ (moved ∙ ap (moved_up since) same) j ∷ [])
          ∙ sym (ap (compacted since) (take_more before place old within) ∙ compacted-push since (take place before) (get_or before place old));
      rest = drop-set-lt (place + 1) now place new (omega arith) ∙ drop_more_same now before place h.rest;
      same_length = length-set now place new ∙ h.same_length;
    }

-- its end
pub moved_all : (since : ℕ) (before now : List Update) (place : ℕ) → AreMoved since before now place → place ≡ length before → now ≡ compacted since before
moved_all since before now place h end =
    sym (take_all place now (omega (arith, end, h.same_length))) ∙ h.done ∙ ap (compacted since) (take_all place before (omega (arith, end)))
