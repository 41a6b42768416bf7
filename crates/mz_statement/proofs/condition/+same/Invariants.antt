use Rattle.std.proofs.Common.{◌≡◌, drop}
use Rattle.mz_statement.proofs.condition.+same.Given as goal

-- the tests that are left decide
abbrev pub invariant-are_same-tests : goal.invariant-are_same-tests
invariant-are_same-tests l =
    (drop l.test-index l.one ≡ l.rest → l.one ≡ l.other) × (l.one ≡ l.other → drop l.test-index l.one ≡ l.rest)
