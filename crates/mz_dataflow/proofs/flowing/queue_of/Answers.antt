use Rattle.std.proofs.Common.{List, sym, subst, ◌∙◌}
use Rattle.mz_updates.specs.declared.update.Update.{Update}
use Rattle.mz_dataflow.specs.Queues.{IsInQueue}
use Rattle.mz_dataflow.proofs.flowing.queue_of.Goals as goal

-- the queue is the consolidated list
pub returns : goal.returns
returns c = subst (λ (us : List Update). IsInQueue c.args.updates us) (sym (c.from.ensures.0 ∙ c.into_vec.ensures)) (record {
  contents = c.consolidate.ensures.contents;
  once = c.consolidate.ensures.once;
  from = c.consolidate.ensures.from;
  before = c.consolidate.ensures.before;
})
