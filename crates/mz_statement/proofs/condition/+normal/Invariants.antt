use Rattle.std.proofs.Common.{◌≡◌, drop}
use Rattle.std.specs.List.{list_all}
use Rattle.mz_statement.specs.Test.{is_member}
use Rattle.mz_statement.proofs.condition.+normal.Given as goal

-- the tests that are left decide
abbrev pub invariant-are_members-loop-test : goal.invariant-are_members-loop-test
invariant-are_members-loop-test l =
    list_all (is_member l.by_and) (drop l.test-index l.tests) ≡ list_all (is_member l.by_and) l.tests
