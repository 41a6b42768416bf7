-- What holds of one stream stays, whatever becomes of it.
use Rattle.std.proofs.Common.{◌≡◌, ℕ, ◌<◌, List, [], ◌∷◌, ◌++◌, length, take, ap, ◌∙◌, arith}
use Rattle.std.proofs.lemmas.List.{length-append, length-take-le}
use Rattle.std.specs.BTreeMap.{BTreeMap}
use Rattle.mz_time.specs.declared.frontier.Frontier.{Frontier}
use Rattle.mz_plan.specs.declared.command.Command.{Command}
use Rattle.mz_history.specs.Kept.{but_last, AreFound, IsKept}
use Rattle.mz_history.proofs.Lists.{length_but_last, take_but_last, take_take}

-- how many lines are marked
pub marked_count : (xs : List Command) (m : ℕ) (t : BTreeMap ℕ Frontier) → IsKept xs m t → length (take m xs) ≡ m
marked_count xs m t k = length-take-le m xs k.within

-- with a line more
pub kept_pushed : (xs ys : List Command) (x : Command) (m : ℕ) (t u : BTreeMap ℕ Frontier) → IsKept xs m t → ys ≡ xs ++ x ∷ [] → AreFound u ys
    → IsKept ys m u
kept_pushed xs ys x m t u k e f = record { within = omega (arith, k.within, ap length e, length-append xs (x ∷ [])); found = f }

-- with the same lines
pub kept_same : (xs ys : List Command) (m : ℕ) (t u : BTreeMap ℕ Frontier) → IsKept xs m t → ys ≡ xs → AreFound u ys → IsKept ys m u
kept_same xs ys m t u k e f = record { within = omega (arith, k.within, ap length e); found = f }

-- without the last line, which isn't marked
pub kept_popped : (xs ys : List Command) (m : ℕ) (t u : BTreeMap ℕ Frontier) → IsKept xs m t → length (take m xs) < length xs → ys ≡ but_last xs
    → AreFound u ys → IsKept ys m u
kept_popped xs ys m t u k h e f = record {
  within = omega (arith, k.within, h, marked_count xs m t k, ap length e, length_but_last xs);
  found = f;
}

-- what is marked stays then
pub popped_marked : (xs ys : List Command) (m : ℕ) (t : BTreeMap ℕ Frontier) → IsKept xs m t → length (take m xs) < length xs → ys ≡ but_last xs
    → take m ys ≡ take m xs
popped_marked xs ys m t k h e = ap (take m) e ∙ take_but_last m xs (omega (arith, h, marked_count xs m t k))

-- up to the mark
pub kept_first : (xs ys : List Command) (m : ℕ) (t u : BTreeMap ℕ Frontier) → IsKept xs m t → ys ≡ take m xs → AreFound u ys → IsKept ys m u
kept_first xs ys m t u k e f = record { within = omega (arith, marked_count xs m t k, ap length e); found = f }

-- what is marked stays then
pub first_marked : (xs ys : List Command) (m : ℕ) → ys ≡ take m xs → take m ys ≡ take m xs
first_marked xs ys m e = ap (take m) e ∙ take_take m m xs (omega arith)
