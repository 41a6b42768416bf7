use Rattle.std.proofs.Common.{◌≡◌, drop, length, map}
use Rattle.std.specs.List.{AllByRecursion as Each}
use Rattle.mz_kept.specs.Steps.{with_replies}
use Rattle.mz_core.specs.Told.{IsNumberOf}
use Rattle.mz_plain.proofs.calls.note_commands.Given as goal

-- the replies that are still to be noted make all of them, and are to sessions
abbrev pub invariant-commands : goal.invariant-commands
invariant-commands l = record {
  noted : with_replies l.sessions.items (map (λ command. command.session) (drop l.command-index l.commands))
      ≡ with_replies l.initial.sessions.items (map (λ command. command.session) l.commands);
  owners : Each (λ command. IsNumberOf (length l.sessions.items) command.session) (drop l.command-index l.commands);
}
