use Rattle.std.proofs.Common.{◌∙◌}
use Rattle.mz_updates.specs.Contents.{stamped}
use Rattle.mz_maintained.proofs.TableLaws.{stamped_fits}
use Rattle.mz_maintained.proofs.tables.fitting.Goals as goal

-- the updates weigh as the bag's entries
pub returns-then-fit_a_table : goal.returns-then-fit_a_table
returns-then-fit_a_table c =
    stamped_fits c.in_ok-all.all c.args.bag (c.in_ok-all.ensures ∙ (λ i. stamped (c.zero.ensures i) (c.in_ok-rows.ensures.rows i)))
    (c.fit_a_table.ensures c.if-fit_a_table.true)
