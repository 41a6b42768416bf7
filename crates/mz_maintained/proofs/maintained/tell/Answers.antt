use Rattle.mz_maintained.proofs.Telling.{told_begun, told_then}
use Rattle.mz_maintained.proofs.maintained.tell.Goals as goal

-- nothing was told yet
pub changes-init : goal.changes-init
changes-init c = told_begun c.args.time c.args.dataflow.now c.args.tables.now.entries

-- one table more
pub changes-preserved : goal.changes-preserved
changes-preserved c =
    told_then c.args.time c.args.changes.now c.changes.table-index c.changes-item.result c.args.dataflow.now c.changes.dataflow c.tell_one.new.dataflow
    c.args.tables.now.entries c.changes.tables.entries c.tell_one.new.tables.entries c.changes-test.true c.changes-item.is c.changes.invariant c.in_ok-tell_one.ensures
