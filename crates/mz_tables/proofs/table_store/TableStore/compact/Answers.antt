use Rattle.std.proofs.Common.{◌≡◌, ap, subst}
use Rattle.mz_tables.specs.Kept.{book}
use Rattle.mz_tables.specs.Table.{TableBook, IsCompacted}
use Rattle.mz_tables.proofs.KeptLaws.{compacted_table}
use Rattle.mz_tables.proofs.table_store.TableStore.compact.Goals as goal

-- folded or not, the updates contain the same from the since on
pub returns : goal.returns
returns c =
    let s = c.self.inside in
    let is : book s.updates s.since s.upper ≡ c.args.self.now.present = ap (λ v. v.present) c.self.view_is in
    subst (λ (b : TableBook). IsCompacted c.args.since b (book c.fold-self-inside.new.updates c.args.since s.upper)) is
    (compacted_table s.updates c.fold-self-inside.new.updates s.since c.args.since s.upper c.fold-self-inside.ensures.same)
