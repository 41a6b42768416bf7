-- What lines say comes out as it should.
use Rattle.mz_laws.proofs.examples.ReadLines as lines
use Rattle.mz_laws.proofs.examples.worked_lines.Goals as goal

pub returns-clause-session_lines : goal.returns-clause-session_lines
returns-clause-session_lines c = lines.session_lines

pub returns-clause-word_lines : goal.returns-clause-word_lines
returns-clause-word_lines c = lines.word_lines

pub returns-clause-replica_lines : goal.returns-clause-replica_lines
returns-clause-replica_lines c = lines.replica_lines

pub returns-clause-numbers : goal.returns-clause-numbers
returns-clause-numbers c = lines.numbers

pub returns-clause-ends : goal.returns-clause-ends
returns-clause-ends c = lines.ends
