use Rattle.std.specs.Prelude.{length}
use Rattle.mz_plan.proofs.made.+are_newest_first.Given as goal

-- what is left of the plans
abbrev pub decreases-are_newest_first : goal.decreases-are_newest_first
decreases-are_newest_first l = length l.plans.now
