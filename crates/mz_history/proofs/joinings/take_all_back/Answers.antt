use Rattle.std.proofs.Common.{arith}
use Rattle.mz_history.specs.Kept.{taken_back}
use Rattle.mz_history.proofs.Lists.{mapped_step, mapped_end}
use Rattle.mz_history.proofs.joinings.take_all_back.Goals as goal

pub each-preserved : goal.each-preserved
unfolding mapped_step
each-preserved c =
    let next = mapped_step taken_back c.args.joinings.now.items c.each.joinings.items c.each.place c.index_mut.result.now c.back.new.self c.each.invariant.is
    c.each.invariant.same_length (omega arith) c.index_mut.ensures.value c.back.ensures in
    record { is = next.is; same_length = next.same_length }

pub returns : goal.returns
returns c = mapped_end taken_back c.args.joinings.now.items c.each.joinings.items c.each.place c.each.invariant.is (omega arith)
