use Rattle.std.proofs.Common.{Some, arith, rules}
use Rattle.std.proofs.lemmas.List.{nil_from_length}
use Rattle.mz_reduce.proofs.OrdersLaws.{not_ordered, order_changed}
use Rattle.mz_reduce.proofs.orders.put.Goals as goal

-- the rows are those of the place and the key
pub returns-in_ok-insert : goal.returns-in_ok-insert
returns-in_ok-insert c =
    order_changed c.args.orders.now.entries c.insert.new.self.entries c.args.spot (Some c.args.order) c.in_ok-insert.ensures.updates.0

-- and without rows there is nothing to put
pub returns-else-not-is_empty : goal.returns-else-not-is_empty
returns-else-not-is_empty c = not_ordered c.args.orders.now.entries c.args.spot c.args.order.keys c.requires
    (nil_from_length c.args.order.keys (search (rules, arith)))
