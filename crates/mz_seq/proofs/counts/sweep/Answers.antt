use Rattle.std.proofs.Common.{ap, ◌∙◌}
use Rattle.mz_bag.specs.Weighted.{Weighted}
use Rattle.mz_seq.specs.Stored.{has_row}
use Rattle.mz_seq.proofs.UsedLemmas.{used_next}
use Rattle.mz_seq.proofs.counts.sweep.Goals as goal

-- one more row is used, or has gone
pub rows-preserved : goal.rows-preserved
rows-preserved c = record {
  counts = λ q. c.let_go.ensures.counts q ∙ c.rows.invariant.counts q;
  covers = c.let_go.ensures.covers c.rows.invariant.covers;
  stays = λ q has. c.rows.invariant.stays q (c.let_go.ensures.stays q has);
  gone = λ q among none.
      used_next c.rows.counts.entries c.let_go.new.counts.entries c.args.changes.now c.in-Some.row.now q c.in-Some._count.now c.next.new.self c.let_go.ensures.gone
      (λ lacks. c.rows.invariant.gone q among (ap (λ (es : Weighted). has_row es q) c.in-Some.ensures.steps ∙ lacks))
      (c.let_go.ensures.stays q) (c.let_go.ensures.counts q) none;
}
