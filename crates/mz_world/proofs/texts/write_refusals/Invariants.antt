-- what is written, with the commands that are left, is the text before with all commands, which are refused for the same cause
use Rattle.std.proofs.Common.{◌≡◌, ◌++◌, drop, string_bytes}
use Rattle.mz_refusal.specs.declared.refusal.Refusal.TheVariants.{TimeSpent}
use Rattle.mz_world.specs.Texts.{refusals_text}
use Rattle.mz_world.proofs.texts.write_refusals.Given as goal

abbrev pub invariant-loop-command : goal.invariant-loop-command
invariant-loop-command l =
    (l.refusal ≡ TimeSpent l.fn.last)
    × (string_bytes l.text ++ refusals_text l.fn.names.keys l.fn.last (drop l.command-index l.commands)
    ≡ string_bytes l.initial.text ++ refusals_text l.fn.names.keys l.fn.last l.initial.commands)
