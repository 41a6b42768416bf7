use Rattle.mz_resolve.proofs.KnownLemmas.{keeps_both}
use Rattle.mz_resolve.proofs.UnknownLemmas.{in_more}
use Rattle.mz_resolve.proofs.reached.reach_all.Goals as goal

-- one select more
pub selects-preserved : goal.selects-preserved
selects-preserved c = record {
  holds = c.in_ok-reach_selected.ensures.holds;
  keeps = keeps_both c.args.known.now.entries c.selects.known.entries c.reach_selected.new.known.entries c.selects.invariant.keeps
      c.in_ok-reach_selected.ensures.keeps;
  reached = in_more c.selects.known.entries c.reach_selected.new.known.entries c.args.catalog.now c.args.below c.args.selects.now
      c.selects.select-index c.select-item.result c.in_ok-reach_selected.ensures.keeps c.selects-test.true c.select-item.is
      c.selects.invariant.reached c.in_ok-reach_selected.ensures.reached;
}
