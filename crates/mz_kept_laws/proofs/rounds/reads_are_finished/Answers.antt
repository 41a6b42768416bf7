-- Each clause is a law of reads that have their rows.
use Rattle.mz_kept_laws.proofs.Turned.{turn_stands}
use Rattle.mz_kept_laws.proofs.rounds.reads_are_finished.Goals as goal

-- each read has its rows
pub returns-clause-reads : goal.returns-clause-reads
returns-clause-reads c = λ kept log s. s.reads.reads

-- and a turn leaves none
pub returns-clause-turned : goal.returns-clause-turned
returns-clause-turned c = turn_stands
