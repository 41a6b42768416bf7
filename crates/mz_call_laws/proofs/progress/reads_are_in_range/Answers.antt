-- Each clause is a lemma.
use Rattle.mz_call_laws.proofs.Fresh.{read_from_ddl, read_from_seen, read_readable}
use Rattle.mz_call_laws.proofs.progress.reads_are_in_range.Goals as goal

pub returns-clause-seen : goal.returns-clause-seen
returns-clause-seen c = read_from_seen

pub returns-clause-from_ddl : goal.returns-clause-from_ddl
returns-clause-from_ddl c = read_from_ddl

pub returns-clause-readable : goal.returns-clause-readable
returns-clause-readable c = read_readable
