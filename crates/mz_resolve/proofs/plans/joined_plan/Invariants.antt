use Rattle.std.proofs.Common.{◌≡◌}
use Rattle.mz_resolution.specs.Queries.{joined_plan}
use Rattle.mz_resolve.proofs.plans.joined_plan.Given as goal

-- the plan so far, joined with the references that are left
abbrev pub invariant-others : goal.invariant-others
invariant-others l =
    joined_plan l.plan l.next-iterator.rest.items l.pairs.rest.items ≡ joined_plan l.fn.first l.fn.others.items l.fn.pairs.items
