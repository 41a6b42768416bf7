use Rattle.std.proofs.Common.{◌-◌, arith}
use Rattle.mz_collections.proofs.Under.{since_place}
use Rattle.mz_collections.proofs.places.since_of.Goals as goal

-- each number is its place and one
pub returns : goal.returns
returns c = since_place 1 (c.args.number - 1) c.args.number c.args.all.now c.index-all-number.result c.requires.numbered (omega (arith, c.requires.made.low)) (omega (arith, c.requires.made.low, c.requires.made.high))
