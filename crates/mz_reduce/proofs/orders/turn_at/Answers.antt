use Rattle.std.proofs.Common.{nat_eq, SFits, rules}
use Rattle.std.specs.Int.{w128}
use Rattle.std.proofs.lemmas.Int.{ints, to_z-of_z}
use Rattle.mz_reduce.proofs.OrdersLaws.{order_gone, turned_at, turned_own}
use Rattle.mz_reduce.proofs.orders.turn_at.Goals as goal

-- what was taken out is gone
pub put-requires : goal.put-requires
put-requires c = order_gone c.args.orders.now.entries c.taken-order.new.orders.entries _ c.taken-order.ensures.rest

-- and is put back with the row or without it
pub returns : goal.returns
returns c =
    let fits : SFits w128 c.args.diff = search (rules, ints) in
    let stands = rw to_z-of_z at c.stays-stands.ensures in
    turned_own (nat_eq c.args.place) c.args.key.now _ c.args.row.now _ c.stays-stands.result c.args.orders.now.entries
    c.put.new.orders.entries c.in_ok-try_copy.ensures stands
    (turned_at c.args.place _ c.args.row.now c.in_ok-front.front _ c.args.orders.now.entries
    c.taken-order.new.orders.entries c.put.new.orders.entries c.taken-order.result.keys c.set.new.order.keys
    c.in_ok-front.ensures c.taken-order.ensures.order c.taken-order.ensures.rest c.in_ok-set.ensures c.in_ok-put.ensures)
