use Rattle.std.proofs.Common.{arith}
use Rattle.mz_history.specs.Kept.{marked_now}
use Rattle.mz_history.proofs.Lists.{mapped_step, mapped_end}
use Rattle.mz_history.proofs.joinings.mark_all.Goals as goal

pub each-preserved : goal.each-preserved
unfolding mapped_step
each-preserved c =
    let next = mapped_step marked_now c.args.joinings.now.items c.each.joinings.items c.each.place c.index_mut.result.now c.mark.new.self c.each.invariant.is
    c.each.invariant.same_length (omega arith) c.index_mut.ensures.value c.mark.ensures in
    record { is = next.is; same_length = next.same_length }

pub returns : goal.returns
returns c = mapped_end marked_now c.args.joinings.now.items c.each.joinings.items c.each.place c.each.invariant.is (omega arith)
