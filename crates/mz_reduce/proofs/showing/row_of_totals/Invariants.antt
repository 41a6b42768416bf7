use Rattle.std.proofs.Common.{take}
use Rattle.mz_reduce.specs.Totals.{TellsAll}
use Rattle.mz_reduce.proofs.showing.row_of_totals.Given as goal

-- the key, and behind it the aggregates so far
abbrev pub invariant-totals : goal.invariant-totals
invariant-totals l = TellsAll l.orders.entries l.key (take l.total-index l.totals) l.values.items
