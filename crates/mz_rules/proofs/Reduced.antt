-- What a reduced list keeps, and that reducing on the way changes nothing in the end.
use Rattle.std.proofs.Common.{◌≡◌, ℕ, ◌==◌, ◌||◌, Bool, true, false, cond, List, ◌++◌, refl, sym, ap, ◌∙◌}
use Rattle.std.specs.List.{list_any}
use Rattle.std.proofs.lemmas.Bool.{cond-true}
use Rattle.std.proofs.lemmas.List.{append-nil}
use Rattle.mz_time.specs.declared.frontier.Frontier.{Frontier}
use Rattle.mz_time.specs.declared.frontier.Frontier.TheVariants.{At}
use Rattle.mz_time.specs.Frontier.{join}
use Rattle.mz_time.proofs.FrontierLemmas.{join_comm}
use Rattle.mz_plan.specs.declared.command.Command.{Command}
use Rattle.mz_rules.specs.Reduced.{creations_left, peeks_left, reduced}
use Rattle.mz_rules.specs.Streams.{told, is_named, created, is_created, is_retired}
use Rattle.mz_rules.proofs.Told.{told_append, told_unnamed, retired_append, created_append, join_zero}
use Rattle.mz_rules.proofs.Left.{peeks_name_none, peeks_make_none, none_ended, asks_end_none, left_told}

-- a reduced list ends no peek
pub reduced_ends_none : (peek : ℕ) (lines : List Command) → is_retired peek (reduced lines) ≡ false
reduced_ends_none peek lines =
    let since : ℕ → Frontier = λ number. told number lines in
    let ended : ℕ → Bool = λ other. is_retired other lines in
    retired_append peek (creations_left since lines) (peeks_left ended lines)
    ∙ ap (λ b. b || is_retired peek (peeks_left ended lines)) (none_ended peek since lines)
    ∙ asks_end_none peek ended lines

-- it makes what its creations make
pub reduced_created : (lines : List Command) → created (reduced lines) ≡ created (creations_left (λ number. told number lines) lines)
reduced_created lines =
    let since : ℕ → Frontier = λ number. told number lines in
    let ended : ℕ → Bool = λ other. is_retired other lines in
    created_append (creations_left since lines) (peeks_left ended lines)
    ∙ ap (λ rest. created (creations_left since lines) ++ rest) (peeks_make_none ended lines)
    ∙ append-nil (created (creations_left since lines))

-- it tells of each collection that it makes what the list tells, and of all others nothing
reduced_told : (number : ℕ) (lines : List Command)
    → told number (reduced lines) ≡ cond (is_created number (reduced lines)) (told number lines) (At 0)
reduced_told number lines =
    let since : ℕ → Frontier = λ other. told other lines in
    let ended : ℕ → Bool = λ other. is_retired other lines in
    told_append number (creations_left since lines) (peeks_left ended lines)
    ∙ ap (join (told number (creations_left since lines))) (peeks_name_none number ended lines)
    ∙ join_comm (told number (creations_left since lines)) (At 0)
    ∙ join_zero (told number (creations_left since lines))
    ∙ left_told number since lines
    ∙ ap (λ ns. cond (list_any (λ other. other == number) ns) (told number lines) (At 0)) (sym (reduced_created lines))

-- of what it makes it tells what the list tells
pub told_same : (number : ℕ) (lines : List Command) → is_created number (reduced lines) ≡ true → told number (reduced lines) ≡ told number lines
told_same number lines e = reduced_told number lines ∙ cond-true _ _ _ e

-- where the list names nothing, it names nothing
pub told_none : (number : ℕ) (lines : List Command) → is_named number lines ≡ false → told number (reduced lines) ≡ At 0
told_none number lines e = reduced_told number lines ∙ either (is_created number (reduced lines))
  where
    either : (b : Bool) → cond b (told number lines) (At 0) ≡ At 0
    either true = told_unnamed number lines e
    either false = refl
