use Rattle.std.proofs.Common.{ℤ, ap, sym}
use Rattle.mz_reduce.proofs.TotalsLaws.{zero_whole}
use Rattle.mz_reduce.proofs.totals.zero.Goals as goal

-- which is 0
pub returns : goal.returns
returns c = ap (λ (z : ℤ). (c.args.aggregate.now, z)) (sym zero_whole)
