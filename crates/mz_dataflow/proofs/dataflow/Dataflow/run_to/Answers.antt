use Rattle.std.proofs.Common.{sym, ap, ◌∙◌, subst}
use Rattle.mz_dataflow.specs.Queues.{AreListedOnce}
use Rattle.mz_dataflow.proofs.dataflow.Dataflow.run_to.Goals as goal

-- it stands for the longer lists, and nothing is offered
pub returns-clause-stands : goal.returns-clause-stands
returns-clause-stands c = λ plan us s. record {
  stands = rw c.replace-offered.ensures.value at (c.in_ok-changes.ensures.stands plan us s.stands);
  listed = subst AreListedOnce (sym (ap (λ offered. offered.items) c.replace-offered.ensures.after ∙ c.new.ensures.items)) tt;
}

-- and its rows have changed by what was put out
pub returns-clause-gives : goal.returns-clause-gives
returns-clause-gives c = λ plan us s. rw c.replace-offered.ensures.value at (c.in_ok-changes.ensures.gives plan us s.stands)
