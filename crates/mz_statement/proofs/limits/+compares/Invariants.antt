use Rattle.std.proofs.Common.{drop}
use Rattle.std.specs.List.{AllByRecursion as Each}
use Rattle.mz_statement.specs.Test.{Compares}
use Rattle.mz_statement.proofs.limits.+compares.Given as goal

-- the tests that are left decide
abbrev pub invariant-all_compare-loop-test : goal.invariant-all_compare-loop-test
invariant-all_compare-loop-test l =
    (Each Compares (drop l.test-index l.tests) → Each Compares l.tests)
    × (Each Compares l.tests → Each Compares (drop l.test-index l.tests))
