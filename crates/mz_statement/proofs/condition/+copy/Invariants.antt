use Rattle.std.proofs.Common.{◌≡◌, take}
use Rattle.mz_statement.proofs.condition.+copy.Given as goal

-- the tests so far are copied
abbrev pub invariant-copied_tests-loop-test : goal.invariant-copied_tests-loop-test
invariant-copied_tests-loop-test l = l.copy.items ≡ take l.test-index l.tests
