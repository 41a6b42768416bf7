use Rattle.mz_state_laws.proofs.RowsThere.{each_there}
use Rattle.mz_state_laws.proofs.LeafRows.{table_bag}
use Rattle.mz_state_laws.proofs.NumbersStay.{each_looked_up}
use Rattle.mz_state_laws.proofs.RowsStay.{rows_none}
use Rattle.mz_state_laws.specs.Well.{IsTableBag}
use Rattle.mz_state_laws.proofs.well.tables_have_their_rows.Goals as goal

pub returns : goal.returns
returns c = record {
  bag = λ state well. table_bag well.types state well.over;
  rows = λ state well number.
      let is = each_looked_up (λ n bag. IsTableBag (well.types n) bag) number state.database.bags well.over.bags (rows_none (well.types number)) in
      each_there _ is.no_zero is.counts;
}
