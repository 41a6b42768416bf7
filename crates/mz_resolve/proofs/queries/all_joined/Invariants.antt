use Rattle.std.proofs.Common.{◌≡◌}
use Rattle.mz_resolution.specs.Queries.{united}
use Rattle.mz_resolve.proofs.queries.all_joined.Given as goal

-- what is united so far, with the relations that are left
abbrev pub invariant-others : goal.invariant-others
invariant-others l = united l.whole l.next-iterator.rest.items ≡ united l.fn.first l.fn.others.items
