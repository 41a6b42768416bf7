use Rattle.std.proofs.Common.{None}
use Rattle.mz_reduce.proofs.OrdersLaws.{order_changed}
use Rattle.mz_reduce.proofs.orders.taken.Goals as goal

-- the order is gone
pub returns-in-Some-clause-rest : goal.returns-in-Some-clause-rest
returns-in-Some-clause-rest c =
    order_changed c.args.orders.now.entries c.swap_remove.new.self.entries c.args.spot.now None c.swap_remove.ensures.updates.0

-- or was not there
pub returns-in-None-clause-rest : goal.returns-in-None-clause-rest
returns-in-None-clause-rest c =
    order_changed c.args.orders.now.entries c.swap_remove.new.self.entries c.args.spot.now None c.swap_remove.ensures.updates.0
