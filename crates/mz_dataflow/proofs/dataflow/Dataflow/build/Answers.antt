use Rattle.std.proofs.Common.{sym, subst}
use Rattle.mz_dataflow.specs.Queues.{AreListedOnce}
use Rattle.mz_dataflow.proofs.Standing.{built_stands}
use Rattle.mz_dataflow.proofs.dataflow.Dataflow.build.Goals as goal

-- it stands for no updates
pub returns-clause-stands : goal.returns-clause-stands
returns-clause-stands c = record {
  stands = built_stands c.args.plan.now c.in_ok-nodes.nodes.items c.at-output.result c.args.as_of c.in_ok-nodes.ensures c.at-output.ensures;
  listed = subst AreListedOnce (sym c.new.ensures.items) tt;
}
