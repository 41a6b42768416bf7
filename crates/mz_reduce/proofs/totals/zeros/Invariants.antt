use Rattle.std.proofs.Common.{◌≡◌, [], take}
use Rattle.mz_reduce.specs.Totals.{totals_over}
use Rattle.mz_reduce.proofs.totals.zeros.Given as goal

-- the aggregates so far have their totals
abbrev pub invariant-aggregates : goal.invariant-aggregates
invariant-aggregates l = l.totals.items ≡ totals_over (take l.aggregate-index l.aggregates) []
