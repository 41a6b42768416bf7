use Rattle.std.proofs.Common.{sym, subst, ◌∙◌}
use Rattle.mz_plain.specs.Stands.{kept}
use Rattle.mz_kept.specs.Standing.{StandsFor}
use Rattle.mz_kept_laws.proofs.Turned.{turn_stands}
use Rattle.mz_plain.proofs.plain.Plain.finish_reads.Goals as goal

-- each read has its rows
pub returns-clause-reads : goal.returns-clause-reads
returns-clause-reads c = λ log s. c.take_reads.ensures.reads ∙ s.reads.reads

-- and a turn leaves what is kept
pub returns-clause-turned : goal.returns-clause-turned
returns-clause-turned c = λ log later s t.
    subst (λ k. StandsFor k later) (sym c.take_reads.ensures.kept) (turn_stands (kept c.args.self.now) log later s t)
