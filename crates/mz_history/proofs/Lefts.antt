-- What is put down of lines is the reduced list.
use Rattle.std.proofs.Common.{◌≡◌, ℕ, Bool, true, false, cond, Some, None, List, [], ◌++◌, refl, sym, ap, ◌∙◌}
use Rattle.std.specs.BTreeMap.{BTreeMap, get}
use Rattle.std.specs.BTreeSet.{BTreeSet, contains}
use Rattle.std.specs.Ordering.{nat_cmp}
use Rattle.mz_time.specs.declared.frontier.Frontier.{Frontier}
use Rattle.mz_plan.specs.declared.command.Command.{Command}
use Rattle.mz_rules.specs.Reduced.{creations_left, peeks_left, reduced}
use Rattle.mz_rules.specs.Streams.{is_named, told, told_where_named}
use Rattle.mz_rules.proofs.Told.{told_unnamed}
use Rattle.mz_history.specs.Kept.{AreFound}
use Rattle.mz_history.specs.Reducing.{found_or_first, HasEnded}

-- what is found of a collection is what the lines tell
found_told : (number : ℕ) (lines : List Command) → found_or_first (told_where_named number lines) ≡ told number lines
found_told number lines = by (is_named number lines) refl
  where
    by : (b : Bool) → is_named number lines ≡ b → found_or_first (cond b (Some (told number lines)) None) ≡ told number lines
    by true e = refl
    by false e = sym (told_unnamed number lines e)

-- the collections and then the peeks, behind nothing
pub put_reduced : (named : BTreeMap ℕ Frontier) (ended : BTreeSet ℕ) (lines none first all : List Command) → AreFound named lines → HasEnded ended lines
    → none ≡ [] → first ≡ none ++ creations_left (λ number. found_or_first (get nat_cmp named number)) lines
    → all ≡ first ++ peeks_left (λ peek. contains nat_cmp ended peek) lines → all ≡ reduced lines
put_reduced named ended lines none first all f e n p q =
    let since : (number : ℕ) → found_or_first (get nat_cmp named number) ≡ told number lines
    = λ number. ap found_or_first (f.each number) ∙ found_told number lines in
    let made : first ≡ creations_left (λ number. told number lines) lines
    = p ∙ ap (λ xs. xs ++ creations_left (λ number. found_or_first (get nat_cmp named number)) lines) n
    ∙ (λ i. creations_left (λ number. since number i) lines) in
    q ∙ (λ i. made i ++ peeks_left (λ peek. e.each peek i) lines)
