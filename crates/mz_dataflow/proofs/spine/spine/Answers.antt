use Rattle.std.proofs.Common.{ap, arith, Some, option_map}
use Rattle.mz_plan.specs.Spine.{first_of}
use Rattle.mz_plan.proofs.SpineRules.{leads_pushed, some_fewer_below, some_steps}
use Rattle.mz_dataflow.proofs.spine.spine.Goals as goal

-- the next plan has fewer operators
pub down-smaller : goal.down-smaller
down-smaller c =
    omega (
      arith,
      ap (λ o. some_steps (option_map (λ one. one.now) o)) c.in-Some.is,
      some_fewer_below c.in-Some.one.now (option_map (λ one. one.now) c.first-next.result) c.first-next.ensures,
    )

-- one plan more
pub down-preserved : goal.down-preserved
down-preserved c =
    leads_pushed (λ one. one.now) first_of (Some c.args.plan.now) c.down.spine.items c.push.new.self.items c.in-Some.one c.down.next
    c.first-next.result c.down.invariant c.in-Some.is c.in_ok-push.ensures.items c.first-next.ensures
