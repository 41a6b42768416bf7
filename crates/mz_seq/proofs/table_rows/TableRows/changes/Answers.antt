use Rattle.std.proofs.Common.{ap, ◌∙◌}
use Rattle.mz_log.specs.Sequential.{difference}
use Rattle.mz_seq.proofs.ViewLemmas.{changes_are}
use Rattle.mz_seq.proofs.table_rows.TableRows.changes.Goals as goal

-- what came is what the rows of now have beyond those of then
pub returns : goal.returns
returns c = changes_are c.self.inside.counts.entries c.self.inside.changes c.self.invariant.no_zero ∙ ap (λ t. difference t.marked t.present) c.self.view_is
