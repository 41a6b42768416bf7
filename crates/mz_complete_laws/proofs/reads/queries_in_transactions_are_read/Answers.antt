-- Each clause is a lemma.
use Rattle.mz_complete_laws.proofs.InTransaction.{transactions_moved, transactions_read}
use Rattle.mz_complete_laws.proofs.reads.queries_in_transactions_are_read.Goals as goal

pub returns-clause-read : goal.returns-clause-read
returns-clause-read c = transactions_read

pub returns-clause-moved : goal.returns-clause-moved
returns-clause-moved c = transactions_moved
