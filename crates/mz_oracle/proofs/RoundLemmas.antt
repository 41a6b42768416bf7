-- An item that is taken out from among others.
use Rattle.std.proofs.Common.{◌≡◌, List, [], ◌∷◌, ◌++◌, length, refl, ap, ◌∙◌}
use Rattle.std.specs.List.{remove}
use Rattle.mz_oracle.specs.Rounds.{RoundsState, all_items, round_items, without_place}

-- what stands before an item and behind it is left where it is taken out
remove_between : {A : Type 0} (before after : List A) (item : A) → remove (before ++ item ∷ after) (length before) ≡ before ++ after
remove_between [] after item = refl
remove_between (b ∷ bs) after item = ap (λ l. b ∷ l) (remove_between bs after item)

-- so the items of the round and the others that wait are left
pub withdrawn_between : {A : Type 0} (rounds : RoundsState A) (before after : List A) (item : A) → rounds.queued ≡ before ++ item ∷ after
    → all_items (without_place rounds (length before)) ≡ round_items rounds ++ (before ++ after)
withdrawn_between rounds before after item is =
    ap (λ q. round_items rounds ++ remove q (length before)) is ∙ ap (λ q. round_items rounds ++ q) (remove_between before after item)
