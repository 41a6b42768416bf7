use Rattle.std.proofs.Common.{map, Some, option_map}
use Rattle.mz_plan.specs.Spine.{first_of, Leads}
use Rattle.mz_plan.proofs.SpineRules.{some_steps}
use Rattle.mz_dataflow.proofs.spine.spine.Given as goal

-- the plans so far lead down
abbrev pub invariant-down : goal.invariant-down
invariant-down l = Leads first_of (Some l.plan) (map (λ one. one.now) l.spine.items) (option_map (λ one. one.now) l.next)

-- the next plan has fewer operators each time
abbrev pub decreases-down : goal.decreases-down
decreases-down l = some_steps (option_map (λ one. one.now) l.next)
