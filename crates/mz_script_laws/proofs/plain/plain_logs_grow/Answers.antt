-- Each clause is a lemma on plain entries.
use Rattle.mz_script_laws.proofs.PlainLines.{plain_event, plain_turn}
use Rattle.mz_script_laws.proofs.PlainSays.{answer_plain}
use Rattle.mz_script_laws.proofs.plain.plain_logs_grow.Goals as goal

pub returns-clause-event : goal.returns-clause-event
returns-clause-event c = plain_event

pub returns-clause-turn : goal.returns-clause-turn
returns-clause-turn c = plain_turn

pub returns-clause-answers : goal.returns-clause-answers
returns-clause-answers c = answer_plain
