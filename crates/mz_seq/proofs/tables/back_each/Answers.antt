use Rattle.std.proofs.Common.{◌≡◌, length, length-set, ap, ◌∙◌, arith}
use Rattle.mz_seq.specs.Tables.{settled}
use Rattle.mz_seq.specs.declared.tables.Table.{Table}
use Rattle.mz_seq.proofs.RoundLemmas.{all_done, done_to, next_done}
use Rattle.mz_seq.proofs.tables.back_each.Goals as goal

-- one more is done
pub places-preserved : goal.places-preserved
places-preserved c =
    let f : Table → Table = λ table. settled table.number table.rows.marked in
    let now = c.places.tables.items in
    record {
      done = next_done c.places.place f c.args.tables.now.items now c.index_mut.result.now c.back_one.new.table (omega arith)
          c.places.invariant.done c.index_mut.ensures.value c.back_one.ensures;
      same_length = length-set now c.places.place c.back_one.new.table ∙ c.places.invariant.same_length;
    }

-- at the end all are
pub returns : goal.returns
returns c =
    let f : Table → Table = λ table. settled table.number table.rows.marked in
    let all : c.places.place ≡ length c.args.tables.now.items = omega arith in
    c.places.invariant.done ∙ ap (λ n. done_to n f c.args.tables.now.items) all ∙ all_done f c.args.tables.now.items
