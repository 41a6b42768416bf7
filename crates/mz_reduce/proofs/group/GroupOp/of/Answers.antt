use Rattle.std.proofs.Common.{ap, ◌∙◌}
use Rattle.mz_reduce.specs.declared.group.Group.{Group}
use Rattle.mz_reduce.proofs.GroupLaws.{none_kept}
use Rattle.mz_reduce.proofs.group.GroupOp.of.Goals as goal

-- it keeps nothing yet
pub returns-clause-fresh : goal.returns-clause-fresh
returns-clause-fresh c = record {
  left = record { each = tt };
  right = record { each = tt };
  stand = none_kept c.fresh.result.core.places c.fresh.result.core.aggregates c.fresh.result.core.groups
      c.fresh.result.core.totals.entries c.fresh.result.core.orders.entries
      (ap (λ (op : Group). op.groups) c.fresh.ensures.core ∙ c.of.ensures.groups)
      (ap (λ (op : Group). op.totals.entries) c.fresh.ensures.core ∙ c.of.ensures.totals)
      (ap (λ (op : Group). op.orders.entries) c.fresh.ensures.core ∙ c.of.ensures.orders);
}
