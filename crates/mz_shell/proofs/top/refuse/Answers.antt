-- The usage line is written whole, or as far as the sink took it.
use Rattle.mz_shell.proofs.AnswerLemmas.{refusal_closed, refusal_cut}
use Rattle.mz_shell.proofs.top.refuse.Goals as goal

-- src/top.rt:18:1
pub returns-in-Ok : goal.returns-in-Ok
returns-in-Ok g c = refusal_closed _ _ _ _ _ _ _ _ c.as_bytes.ensures.value c.in-Ok.ensures.ok c.flushed.ensures.status c.flushed.ensures.kept c.in-Ok.ensures.cause.later

-- src/top.rt:18:1
pub returns-in-Err : goal.returns-in-Err
returns-in-Err g c = refusal_cut _ _ _ _ _ c.as_bytes.ensures.value c.in-Err.ensures.front c.in-Err.ensures.cause.failed
