-- The law is a lemma.
use Rattle.mz_stream_laws.proofs.Answered.{answers_come}
use Rattle.mz_stream_laws.proofs.peeks.packets_answer_what_has_come.Goals as goal

pub returns : goal.returns
returns c = answers_come
