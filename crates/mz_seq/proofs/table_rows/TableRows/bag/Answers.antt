use Rattle.std.proofs.Common.{◌≡◌, IfOk, ap, subst}
use Rattle.mz_bag.specs.Bag.{Counts}
use Rattle.mz_seq.proofs.table_rows.TableRows.bag.Goals as goal

-- the copy has the rows of now
pub returns : goal.returns
returns c = subst (λ (rows : Counts). IfOk c.copied_rows.result (λ bag. bag ≡ rows)) (ap (λ t. t.present) c.self.view_is) c.copied_rows.ensures
