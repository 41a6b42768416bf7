use Rattle.std.proofs.Common.{◌≤◌, subst}
use Rattle.mz_dataflow_tests.proofs.ToldLaws.{can_run, told_ran}
use Rattle.mz_dataflow_tests.proofs.told.run_to.Goals as goal

-- the run is within the bound
pub run-requires : goal.run-requires
run-requires g c =
    can_run c.runs_of_few_updates.ensures c.args.plan.now c.args.told.now.flow c.args.told.now.given.items c.args.next c.requires
    (subst (λ n. n ≤ c.args.next) c.upper.ensures c.want_later.ensures) c.in_ok-want_few.ensures (rw c.deref.ensures.value at c.want_before.ensures)
    (rw c.deref-2.ensures.value at c.want_small.ensures)

-- and the dataflow stands for what it was offered
pub returns : goal.returns
returns g c = told_ran c.args.plan.now c.args.told.now.flow c.run.new.flow c.args.told.now.given.items c.requires c.in_ok-run.ensures.stands c.in_ok-run.ensures.offers
