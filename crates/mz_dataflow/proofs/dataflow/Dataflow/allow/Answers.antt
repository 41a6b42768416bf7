use Rattle.mz_dataflow.proofs.Standing.{allowed_stands}
use Rattle.mz_dataflow.proofs.dataflow.Dataflow.allow.Goals as goal

-- it stands for what it stood for
pub returns-clause-stands : goal.returns-clause-stands
returns-clause-stands c = λ plan us s. record {
  stands = allowed_stands plan c.args.self.now.nodes.items c.args.self.now.output c.allow.new.self c.args.since us c.requires c.allow.ensures s.stands;
  listed = s.listed;
}
