use Rattle.std.proofs.Common.{List, length, sym, subst, ◌∙◌}
use Rattle.std.specs.List.{AllByRecursion as Each}
use Rattle.mz_core.specs.declared.calls.Waiting.{Waiting}
use Rattle.mz_core.specs.Told.{IsNumberOf}
use Rattle.mz_plain.specs.Stands.{kept}
use Rattle.mz_plain.proofs.OfLog.{queued_owned}
use Rattle.mz_plain.proofs.plain.Plain.spend.Goals as goal

-- the commands are of sessions
pub note_commands-requires : goal.note_commands-requires
note_commands-requires c =
    subst (λ (commands : List Waiting). Each (λ command. IsNumberOf (length c.args.self.now.sessions.items) command.session) commands)
    (sym (c.as_slice.ensures ∙ c.empty-commands.ensures.items)) (queued_owned (kept c.args.self.now) c.requires)
