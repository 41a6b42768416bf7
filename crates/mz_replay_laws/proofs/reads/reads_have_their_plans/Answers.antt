use Rattle.mz_replay_laws.proofs.ReadPlans.{read_plan}
use Rattle.mz_replay_laws.proofs.reads.reads_have_their_plans.Goals as goal

-- each read that was accepted has its plan
pub returns : goal.returns
returns c = read_plan
