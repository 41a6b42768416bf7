use Rattle.std.proofs.Common.{sym, subst, ◌∙◌}
use Rattle.mz_bag.specs.Bag.{Counts}
use Rattle.mz_seq.specs.Stored.{IsTable}
use Rattle.mz_seq.proofs.TableLemmas.{table_none}
use Rattle.mz_seq.proofs.UsedLemmas.{none_used}
use Rattle.mz_seq.proofs.ViewLemmas.{marked_kept, now_none, then_now}
use Rattle.mz_seq.proofs.table_rows.TableRows.empty.Goals as goal

-- there is no row, now and at the mark
pub invariant_of-result : goal.invariant_of-result
invariant_of-result c =
    marked_kept c.new.result.entries c.empty.result 0 c.empty.ensures (none_used c.new.result.entries c.empty.result c.new.ensures.empty)
    (subst (λ (b : Counts). IsTable 0 b) (sym (now_none c.new.result.entries c.new.ensures.empty)) table_none)

pub returns-clause-present : goal.returns-clause-present
returns-clause-present c = now_none c.new.result.entries c.new.ensures.empty

pub returns-clause-marked : goal.returns-clause-marked
returns-clause-marked c = then_now c.new.result.entries c.empty.result c.empty.ensures ∙ now_none c.new.result.entries c.new.ensures.empty
