use Rattle.std.proofs.Common.{subst, sym}
use Rattle.mz_reduce.specs.Orders.{TellsLeast}
use Rattle.mz_reduce.proofs.RankLaws.{first_tells, no_rows, none_least}
use Rattle.mz_reduce.proofs.orders.first_value.Goals as goal

-- the first row's value is told
pub returns-in_ok-value_at-in-Some : goal.returns-in_ok-value_at-in-Some
returns-in_ok-value_at-in-Some c = λ place. subst (TellsLeast place c.args.order.now.keys) (sym c.in_ok-value_at-in-Some.ensures)
    (first_tells place c.in-Some.front.now c.args.order.now.keys c.in-Some.ensures.member c.in-Some.ensures.least)

-- or FALSE
pub returns-in-None : goal.returns-in-None
returns-in-None c = λ place. none_least place c.args.order.now.keys (no_rows c.args.order.now.keys c.in-None.ensures.variant.1)
