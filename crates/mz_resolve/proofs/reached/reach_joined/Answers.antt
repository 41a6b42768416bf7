use Rattle.mz_resolve.proofs.KnownLemmas.{keeps_both}
use Rattle.mz_resolve.proofs.UnknownLemmas.{joined_more}
use Rattle.mz_resolve.proofs.reached.reach_joined.Goals as goal

-- one JOIN more
pub joins-preserved : goal.joins-preserved
joins-preserved c = record {
  holds = c.in_ok-reach_named.ensures.holds;
  keeps = keeps_both c.args.known.now.entries c.joins.known.entries c.reach_named.new.known.entries c.joins.invariant.keeps
      c.in_ok-reach_named.ensures.keeps;
  reached = joined_more c.joins.known.entries c.reach_named.new.known.entries c.args.catalog.now c.args.below c.args.joins.now c.joins.join-index
      c.join-item.result c.in_ok-reach_named.ensures.keeps c.joins-test.true c.join-item.is c.joins.invariant.reached
      c.in_ok-reach_named.ensures.reached;
}
