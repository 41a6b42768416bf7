use Rattle.std.proofs.Common.{◌≡◌, ◌++◌}
use Rattle.std.specs.List.{flat_map}
use Rattle.mz_grammar.specs.Joined.{disjuncts}
use Rattle.mz_parse.proofs.condition.any_of.Given as goal

-- what was joined, and what is still to come
abbrev pub invariant-tests : goal.invariant-tests
invariant-tests l = l.joined ++ flat_map disjuncts l.test-iterator.rest.items ≡ flat_map disjuncts l.fn.tests.items
