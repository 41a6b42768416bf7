use Rattle.mz_seq.proofs.Making.{Makes}
use Rattle.mz_seq.proofs.counts.copied_rows.Given as goal

-- the rows so far, with those to come, make the bag
abbrev pub invariant-rows : goal.invariant-rows
invariant-rows l = Makes l.bag l.row-iterator l.counts.entries
