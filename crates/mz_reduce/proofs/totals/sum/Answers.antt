use Rattle.std.specs.Int.{w128}
use Rattle.std.proofs.lemmas.Int.{wrapping_add_is}
use Rattle.mz_reduce.proofs.totals.sum.Goals as goal

-- what the machine's addition leaves is the sum, wrapped
pub returns : goal.returns
returns c = wrapping_add_is w128 c.args.total c.args.number c.ranges.total c.ranges.number
