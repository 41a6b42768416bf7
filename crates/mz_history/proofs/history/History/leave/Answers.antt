use Rattle.std.proofs.Common.{ap, sym, subst, ◌∙◌}
use Rattle.mz_history.specs.Kept.{presents}
use Rattle.mz_history.specs.StreamBook.{is_of, without_stream}
use Rattle.mz_history.proofs.Marks.{kept_left}
use Rattle.mz_history.proofs.history.History.leave.Goals as goal

-- no two of those that are left are of one replica
pub invariant_of-self : goal.invariant_of-self
invariant_of-self c =
    let h = c.self.inside in
    kept_left (λ s. Rattle.std.proofs.Common.not (is_of c.args.replica.now s)) h.streams.items c.leave_one.new.streams.items h.joinings.items h.mark h.joined_mark
    c.self.invariant c.leave_one.ensures

pub leave_one-requires : goal.leave_one-requires
leave_one-requires c = c.self.invariant.apart

pub returns : goal.returns
returns c =
    (λ i. record { live = c.leave_one.ensures i; joined = presents c.self.inside.joinings.items })
    ∙ ap (λ v. without_stream c.args.replica.now v.present) c.self.view_is
