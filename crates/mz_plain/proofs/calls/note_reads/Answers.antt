use Rattle.std.proofs.Common.{◌≡◌, get_or, ap, ◌∙◌}
use Rattle.mz_core.specs.declared.calls.FinishedRead.{FinishedRead}
use Rattle.mz_kept.specs.Steps.{with_reply}
use Rattle.mz_kept_laws.proofs.SessionPlaces.{note_next, owners_next}
use Rattle.mz_plain.proofs.calls.note_reads.Goals as goal

-- one more reply is noted
pub reads-preserved : goal.reads-preserved
reads-preserved c =
    let own = c.read-item.result in
    let place = c.reads.read-index in
    let before = c.reads.sessions.items in
    let is : c.note_reply.new.sessions.items ≡ with_reply before (get_or c.args.reads.now place own).session =
    c.note_reply.ensures ∙ ap (λ (x : FinishedRead). with_reply before x.session) c.read-item.is in
    record {
      noted = note_next (λ read. read.session) c.args.reads.now place own before c.note_reply.new.sessions.items c.args.sessions.now.items
          c.reads-test.true is c.reads.invariant.noted;
      owners = owners_next (λ read. read.session) c.args.reads.now place own before c.note_reply.new.sessions.items c.reads-test.true is
          c.reads.invariant.owners;
    }
