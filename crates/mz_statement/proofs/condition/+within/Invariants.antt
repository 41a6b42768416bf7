use Rattle.std.proofs.Common.{◌≡◌, nat_le, drop}
use Rattle.mz_statement.specs.Test.{deepest_of}
use Rattle.mz_statement.proofs.condition.+within.Given as goal

-- the tests that are left decide
abbrev pub invariant-are_within-loop-test : goal.invariant-are_within-loop-test
invariant-are_within-loop-test l =
    nat_le (deepest_of l.by_and (drop l.test-index l.tests)) l.limit ≡ nat_le (deepest_of l.by_and l.tests) l.limit
