use Rattle.std.proofs.Common.{take, ◌+ℤ◌}
use Rattle.mz_bag.specs.Bag.{count_in}
use Rattle.mz_keyed.specs.Keyed.{rows_of}
use Rattle.mz_reduce.specs.Counting.{is_there}
use Rattle.mz_reduce.specs.Orders.{are_ranked, IsTurned}
use Rattle.mz_reduce.proofs.orders.turn.Given as goal

-- the row turned at the places of the aggregates so far
abbrev pub invariant-aggregates : goal.invariant-aggregates
invariant-aggregates l = IsTurned (λ place. are_ranked place (take l.aggregate-index l.aggregates)) l.key l.row
    (is_there (count_in (rows_of l.groups l.key) l.row +ℤ l.diff)) l.initial.orders.entries l.orders.entries
