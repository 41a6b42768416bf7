use Rattle.std.proofs.Common.{ap, ◌∙◌}
use Rattle.mz_history.specs.Kept.{presents}
use Rattle.mz_history.specs.StreamBook.{trimmed}
use Rattle.mz_history.proofs.Marks.{kept_one_trimmed}
use Rattle.mz_history.proofs.history.History.trim.Goals as goal

-- the same replicas have streams
pub invariant_of-self : goal.invariant_of-self
invariant_of-self c =
    let h = c.self.inside in
    kept_one_trimmed c.args.replica.now c.args.taken h.streams.items c.trim_one.new.streams.items h.joinings.items h.mark h.joined_mark c.self.invariant c.trim_one.ensures

pub trim_one-requires : goal.trim_one-requires
trim_one-requires c = c.self.invariant.apart

pub returns : goal.returns
returns c =
    (λ i. record { live = c.trim_one.ensures i; joined = presents c.self.inside.joinings.items })
    ∙ ap (λ v. trimmed c.args.replica.now c.args.taken v.present) c.self.view_is
