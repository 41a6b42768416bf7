use Rattle.std.proofs.Common.{SFits, rules}
use Rattle.std.specs.Int.{w128}
use Rattle.std.proofs.lemmas.Int.{ints, to_z-of_z}
use Rattle.mz_reduce.proofs.TotalsLaws.{count_tells, greatest_tells, least_tells, sum_tells}
use Rattle.mz_reduce.proofs.showing.value_of.Goals as goal

-- a total is what COUNT tells
pub returns-in-Count : goal.returns-in-Count
returns-in-Count c =
    let fits : SFits w128 c.args.total.now.1 = search (rules, ints) in
    record {
      tells = λ bag stored light h. rw to_z-of_z
          (count_tells bag c.args.orders.now.entries c.args.key.now c.args.total.now light h c.in-Count.is);
    }

-- and what SUM does
pub returns-in-Sum : goal.returns-in-Sum
returns-in-Sum c =
    let fits : SFits w128 c.args.total.now.1 = search (rules, ints) in
    record {
      tells = λ bag stored light h. rw to_z-of_z
          (sum_tells bag c.args.orders.now.entries c.args.key.now _ c.args.total.now h c.in-Sum.is);
    }

-- the first of an order is what MIN tells
pub returns-in_ok-least-in-Min : goal.returns-in_ok-least-in-Min
returns-in_ok-least-in-Min c =
    least_tells c.args.orders.now.entries c.args.key.now _ c.args.total.now _ c.in_ok-least-in-Min.ensures c.in-Min.is

-- and the last what MAX does
pub returns-in_ok-greatest-in-Max : goal.returns-in_ok-greatest-in-Max
returns-in_ok-greatest-in-Max c =
    greatest_tells c.args.orders.now.entries c.args.key.now _ c.args.total.now _ c.in_ok-greatest-in-Max.ensures c.in-Max.is
