use Rattle.std.proofs.Common.{◌≡◌, get_or, ap, ◌∙◌}
use Rattle.mz_core.specs.declared.calls.Waiting.{Waiting}
use Rattle.mz_kept.specs.Steps.{with_reply}
use Rattle.mz_kept_laws.proofs.SessionPlaces.{note_next, owners_next}
use Rattle.mz_plain.proofs.calls.note_commands.Goals as goal

-- one more reply is noted
pub commands-preserved : goal.commands-preserved
commands-preserved c =
    let own = c.command-item.result in
    let place = c.commands.command-index in
    let before = c.commands.sessions.items in
    let is : c.note_reply.new.sessions.items ≡ with_reply before (get_or c.args.commands.now place own).session =
    c.note_reply.ensures ∙ ap (λ (x : Waiting). with_reply before x.session) c.command-item.is in
    record {
      noted = note_next (λ command. command.session) c.args.commands.now place own before c.note_reply.new.sessions.items c.args.sessions.now.items
          c.commands-test.true is c.commands.invariant.noted;
      owners = owners_next (λ command. command.session) c.args.commands.now place own before c.note_reply.new.sessions.items c.commands-test.true is
          c.commands.invariant.owners;
    }
