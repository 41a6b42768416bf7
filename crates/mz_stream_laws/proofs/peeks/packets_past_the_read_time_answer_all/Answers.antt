-- Each clause is a lemma.
use Rattle.mz_stream_laws.proofs.Answered.{all_answered, all_finished}
use Rattle.mz_stream_laws.proofs.peeks.packets_past_the_read_time_answer_all.Goals as goal

pub returns-clause-all : goal.returns-clause-all
returns-clause-all c = all_answered

pub returns-clause-finished : goal.returns-clause-finished
returns-clause-finished c = all_finished
