use Rattle.std.proofs.Common.{ap, ◌∙◌}
use Rattle.mz_seq.proofs.UsedLemmas.{marked_used}
use Rattle.mz_seq.proofs.ViewLemmas.{covers_none, swept_kept, now_same, then_now}
use Rattle.mz_seq.proofs.table_rows.TableRows.mark.Goals as goal

-- nothing came since, so nothing has to be covered
pub sweep-requires : goal.sweep-requires
sweep-requires c = covers_none c.self.inside.counts.entries c.replace-changes.new.dest (c.replace-changes.ensures.after ∙ c.empty.ensures)

-- what isn't there is swept
pub invariant_of-self : goal.invariant_of-self
invariant_of-self c =
    let s = c.self.inside in
    let none = c.replace-changes.new.dest in
    swept_kept s.counts.entries c.sweep.new.counts.entries none s.rows (c.replace-changes.ensures.after ∙ c.empty.ensures) c.sweep.ensures.counts
    (marked_used s.counts.entries c.sweep.new.counts.entries c.counts.result.now.entries s.changes none (c.replace-changes.ensures.after ∙ c.empty.ensures)
    (c.counts.ensures.counts ∙ c.replace-changes.ensures.value) c.self.invariant.used c.sweep.ensures.stays c.sweep.ensures.counts c.sweep.ensures.gone)
    c.self.invariant.now

pub returns-clause-present : goal.returns-clause-present
returns-clause-present c = now_same c.self.inside.counts.entries c.sweep.new.counts.entries c.sweep.ensures.counts ∙ ap (λ t. t.present) c.self.view_is

pub returns-clause-marked : goal.returns-clause-marked
returns-clause-marked c =
    then_now c.sweep.new.counts.entries c.replace-changes.new.dest (c.replace-changes.ensures.after ∙ c.empty.ensures)
    ∙ now_same c.self.inside.counts.entries c.sweep.new.counts.entries c.sweep.ensures.counts ∙ ap (λ t. t.present) c.self.view_is
