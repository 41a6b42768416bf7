use Rattle.std.proofs.Common.{◌≡◌, ◌++◌}
use Rattle.std.specs.List.{flat_map}
use Rattle.mz_grammar.specs.Joined.{conjuncts}
use Rattle.mz_parse.proofs.condition.all_of.Given as goal

-- what was joined, and what is still to come
abbrev pub invariant-tests : goal.invariant-tests
invariant-tests l = l.joined ++ flat_map conjuncts l.test-iterator.rest.items ≡ flat_map conjuncts l.fn.tests.items
