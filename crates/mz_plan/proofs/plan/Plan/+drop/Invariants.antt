use Rattle.std.proofs.Common.{◌≤◌}
use Rattle.mz_plan.specs.declared.plan.Plan.{size-Plan}
use Rattle.mz_plan.proofs.plan.Plan.+drop.Given as goal

-- a plan on the way is no deeper than the one that is let go
abbrev pub invariant-spine : goal.invariant-spine
invariant-spine l = size-Plan l.self ≤ size-Plan l.initial.self
