use Rattle.std.proofs.Common.{subst, sym}
use Rattle.mz_reduce.specs.Orders.{TellsGreatest}
use Rattle.mz_reduce.proofs.RankLaws.{last_tells, no_rows, none_greatest}
use Rattle.mz_reduce.proofs.orders.last_value.Goals as goal

-- the last row's value is told
pub returns-in_ok-value_at-in-Some : goal.returns-in_ok-value_at-in-Some
returns-in_ok-value_at-in-Some c = λ place. subst (TellsGreatest place c.args.order.now.keys) (sym c.in_ok-value_at-in-Some.ensures)
    (last_tells place c.in-Some.front.now c.args.order.now.keys c.in-Some.ensures.member c.in-Some.ensures.greatest)

-- or FALSE
pub returns-in-None : goal.returns-in-None
returns-in-None c = λ place. none_greatest place c.args.order.now.keys (no_rows c.args.order.now.keys c.in-None.ensures.variant.1)
