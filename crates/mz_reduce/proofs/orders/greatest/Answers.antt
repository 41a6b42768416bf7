use Rattle.mz_reduce.proofs.OrdersLaws.{order_found, order_missed}
use Rattle.mz_reduce.proofs.RankLaws.{greatest_same, none_greatest}
use Rattle.mz_reduce.proofs.orders.greatest.Goals as goal

-- the order is that of the place and the key
pub returns-in-Some : goal.returns-in-Some
returns-in-Some c =
    greatest_same c.args.place _ _ _
    (order_found c.args.orders.now.entries c.args.place c.args.key.now _ _ c.in_ok-try_copy.ensures c.in-Some.ensures.value)
    (c.in_ok-last_value-in-Some.ensures c.args.place)

-- or has no rows
pub returns : goal.returns
returns c = none_greatest c.args.place _
    (order_missed c.args.orders.now.entries c.args.place c.args.key.now _ c.in_ok-try_copy.ensures c.in-None.ensures.value)
