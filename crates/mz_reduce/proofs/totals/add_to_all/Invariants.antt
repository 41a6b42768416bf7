use Rattle.std.proofs.Common.{◌≡◌, map, take}
use Rattle.mz_reduce.specs.Totals.{with_row}
use Rattle.mz_reduce.proofs.totals.add_to_all.Given as goal

-- the row is added to the totals so far
abbrev pub invariant-totals : goal.invariant-totals
invariant-totals l = l.next.items ≡ map (with_row l.row l.diff) (take l.total-index l.totals)
