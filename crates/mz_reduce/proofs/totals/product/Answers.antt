use Rattle.std.specs.Int.{w128}
use Rattle.std.proofs.lemmas.Int.{wrapping_mul_is}
use Rattle.mz_reduce.proofs.totals.product.Goals as goal

-- what the machine's product leaves is the product, wrapped
pub returns : goal.returns
returns c = wrapping_mul_is w128 c.args.diff c.args.number c.ranges.diff c.ranges.number
