-- Each clause is a lemma: what a step back keeps.
use Rattle.mz_time.proofs.FrontierLemmas.{step_back-Le, step_back_mono}
use Rattle.mz_time.proofs.laws.steps_back.Goals as goal

pub returns-clause-no_later : goal.returns-clause-no_later
returns-clause-no_later c = step_back-Le

pub returns-clause-keeps_order : goal.returns-clause-keeps_order
returns-clause-keeps_order c = step_back_mono
