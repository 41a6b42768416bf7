use Rattle.mz_arrange.proofs.OrderedLaws.{none_from, same_placed}
use Rattle.std.specs.BTreeMap.{get}
use Rattle.mz_value.specs.Row.{row_cmp}
use Rattle.mz_arrange.proofs.ordered.make_place.Goals as goal

-- a row that comes with the count 0 is not there yet
pub returns-clause-same : goal.returns-clause-same
returns-clause-same c =
    same_placed c.args.rows.now c.insert.new.self c.args.row.now c.len-len.ensures.ordered c.insert.ensures.ordered
    (none_from (get row_cmp c.args.rows.now c.args.row.now) c.contains_key-stands.result c.contains_key-stands.ensures c.if-stands.false)
    (rw c.in_ok-copy.ensures at c.in_ok-insert.ensures.updates.0)
