-- Each clause is a lemma on plain logs.
use Rattle.mz_script_laws.proofs.PlainLogs.{no_hold, no_transaction, none_closed, none_taken, one_cluster}
use Rattle.mz_script_laws.proofs.plain.plain_logs_are_simple.Goals as goal

pub returns-clause-unclosed : goal.returns-clause-unclosed
returns-clause-unclosed c = none_closed

pub returns-clause-outside : goal.returns-clause-outside
returns-clause-outside c = no_transaction

pub returns-clause-unheld : goal.returns-clause-unheld
returns-clause-unheld c = no_hold

pub returns-clause-none_taken : goal.returns-clause-none_taken
returns-clause-none_taken c = none_taken

pub returns-clause-one_cluster : goal.returns-clause-one_cluster
returns-clause-one_cluster c = one_cluster
