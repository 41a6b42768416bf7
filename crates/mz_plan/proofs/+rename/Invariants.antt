use Rattle.std.proofs.Common.{length, map, ◌+◌, ◌*◌, Some}
use Rattle.mz_plan.specs.Leaves.{new_number}
use Rattle.mz_plan.specs.Spine.{first_of}
use Rattle.mz_plan.proofs.OverRules.{IsRenamed}
use Rattle.mz_plan.proofs.FirstRules.{steps}
use Rattle.mz_plan.proofs.SpineRules.{Rises}
use Rattle.mz_plan.proofs.+rename.Given as goal

-- a plan of the spine has no more operators than the plan
abbrev pub decreases-plan::Plan::renamed_over : goal.decreases-plan::Plan::renamed_over
decreases-plan::Plan::renamed_over l = 3 * steps l.self.now

-- the plan
abbrev pub decreases-plan::Plan::renamed : goal.decreases-plan::Plan::renamed
decreases-plan::Plan::renamed l = 3 * steps l.self.now + 1

-- and what is to the right of it has fewer
abbrev pub decreases-leaves::renamed_below : goal.decreases-leaves::renamed_below
decreases-leaves::renamed_below l = 3 * steps l.plan.now + 2

-- each step makes one of the plans that are left
abbrev pub decreases-plan::Plan::renamed-up : goal.decreases-plan::Plan::renamed-up
decreases-plan::Plan::renamed-up l = length l.spine.items

-- those that are left, over what is made
abbrev pub invariant-plan::Plan::renamed-up : goal.invariant-plan::Plan::renamed-up
invariant-plan::Plan::renamed-up l =
    Rises first_of (IsRenamed (new_number l.fn.names)) (Some l.fn.self) (map (λ one. one.now) l.spine.items) l.made
