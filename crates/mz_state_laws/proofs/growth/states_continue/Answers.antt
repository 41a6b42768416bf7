use Rattle.mz_state_laws.proofs.GrowthLaws.{asked_continues, continues_itself, continues_twice, seq_continues}
use Rattle.mz_state_laws.proofs.growth.states_continue.Goals as goal

pub returns : goal.returns
returns c = record { statement = seq_continues; asked = asked_continues; itself = continues_itself; twice = continues_twice }
