use Rattle.std.proofs.Common.{ap, sym, ◌∙◌}
use Rattle.std.specs.List.{position}
use Rattle.mz_history.specs.Kept.{presents}
use Rattle.mz_history.specs.StreamBook.{is_of}
use Rattle.mz_history.proofs.Live.{gone_at, none_gone}
use Rattle.mz_history.proofs.streams.leave_one.Goals as goal

-- no other is of the replica
pub returns-in-Some : goal.returns-in-Some
returns-in-Some c =
    ap presents c.remove.ensures.items
    ∙ gone_at c.args.replica.now c.args.streams.now.items c.in-Some.place c.requires
    (sym c.in-Some.is ∙ c.place_of.ensures ∙ ap (position (λ x. is_of c.args.replica.now x.present)) c.deref.ensures.value)

pub returns-in-None : goal.returns-in-None
returns-in-None c =
    none_gone c.args.replica.now c.args.streams.now.items
    (sym c.in-None.is ∙ c.place_of.ensures ∙ ap (position (λ x. is_of c.args.replica.now x.present)) c.deref.ensures.value)
