-- What the script ended with, and how it was closed, is its answer.
use Rattle.mz_shell.proofs.AnswerLemmas.{script_answer}
use Rattle.mz_shell.proofs.script.run_script.Goals as goal

pub returns : goal.returns
returns g c = script_answer _ _ _ _ _ _ _ _ _ _ c.close.result c.answer_script-outcome.result
    c.answer_script-outcome.ensures.finished c.answer_script-outcome.ensures.stopped c.close.ensures.status c.close.ensures.kept c.answer_script-outcome.ensures.sink_later c.close.ensures.later
