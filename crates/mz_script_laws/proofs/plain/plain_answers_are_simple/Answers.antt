-- Each clause is a lemma on plain logs.
use Rattle.mz_script_laws.proofs.PlainAnswers.{answers_plainly, commands_queued, queries_read}
use Rattle.mz_script_laws.proofs.PlainLogs.{ddl_read}
use Rattle.mz_script_laws.proofs.plain.plain_answers_are_simple.Goals as goal

pub returns-clause-newest : goal.returns-clause-newest
returns-clause-newest c = ddl_read

pub returns-clause-commands : goal.returns-clause-commands
returns-clause-commands c = commands_queued

pub returns-clause-queries : goal.returns-clause-queries
returns-clause-queries c = queries_read

pub returns-clause-answers : goal.returns-clause-answers
returns-clause-answers c = answers_plainly
