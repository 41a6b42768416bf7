use Rattle.std.proofs.Common.{List, FitsSigned}
use Rattle.std.specs.Int.{w32}
use Rattle.mz_value.specs.declared.datum.Datum.{Datum}
use Rattle.mz_bag.specs.Bag.{count_in}
use Rattle.mz_ground_tests.proofs.bags.bag.Given as goal

-- each count so far is small
abbrev pub invariant-changes : goal.invariant-changes
invariant-changes g l = (q : List Datum) → FitsSigned w32 (count_in l.bag q)
