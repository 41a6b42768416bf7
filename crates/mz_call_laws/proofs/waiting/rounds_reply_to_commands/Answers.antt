-- Each clause is a lemma.
use Rattle.mz_call_laws.proofs.Front.{open_is_front}
use Rattle.mz_call_laws.proofs.Rounds.{queued_apart, replied_command, round_apart}
use Rattle.mz_call_laws.proofs.waiting.rounds_reply_to_commands.Goals as goal

pub returns-clause-front : goal.returns-clause-front
returns-clause-front c = open_is_front

pub returns-clause-queued_apart : goal.returns-clause-queued_apart
returns-clause-queued_apart c = queued_apart

pub returns-clause-apart : goal.returns-clause-apart
returns-clause-apart c = round_apart

pub returns-clause-replied : goal.returns-clause-replied
returns-clause-replied c = replied_command
