use Rattle.mz_reduce.proofs.OrdersLaws.{none_turned, turned_more}
use Rattle.mz_reduce.proofs.orders.turn.Goals as goal

-- at first nothing turned
pub aggregates-init : goal.aggregates-init
aggregates-init c = none_turned c.args.key.now c.args.row.now _ c.args.orders.now.entries

-- then one place more
pub aggregates-preserved : goal.aggregates-preserved
aggregates-preserved c =
    turned_more c.args.aggregates.now c.aggregates.aggregate-index _ c.args.key.now c.args.row.now _ c.args.orders.now.entries
    c.aggregates.orders.entries c.turn_for.new.orders.entries c.aggregates-test.true c.aggregates.invariant c.in_ok-turn_for.ensures
