use Rattle.std.proofs.Common.{arith}
use Rattle.mz_counted.proofs.Falling.{count_apart}
use Rattle.mz_counted.proofs.places.how_often.Goals as goal

-- the two places are as far apart as the time is often there
pub overflow_sub-result : goal.overflow_sub-result
overflow_sub-result c =
    omega (arith, count_apart c.args.t c.after.result c.from.result c.args.times.now c.after.ensures.first c.after.ensures.rest c.from.ensures.first c.from.ensures.rest c.after.ensures.place c.from.ensures.place)

pub returns : goal.returns
returns c =
    omega (arith, count_apart c.args.t c.after.result c.from.result c.args.times.now c.after.ensures.first c.after.ensures.rest c.from.ensures.first c.from.ensures.rest c.after.ensures.place c.from.ensures.place)
