use Rattle.std.proofs.Common.{SFits, rules}
use Rattle.std.specs.Int.{w128}
use Rattle.std.proofs.lemmas.Int.{ints, to_z-of_z}
use Rattle.mz_reduce.proofs.OrdersLaws.{none_turned, turned_for}
use Rattle.mz_reduce.proofs.orders.turn_for.Goals as goal

-- COUNT and SUM rank no place
pub returns-in-Count : goal.returns-in-Count
returns-in-Count c =
    turned_for c.args.aggregate _ c.args.key.now c.args.row.now _ c.args.orders.now.entries c.args.orders.now.entries c.in-Count.is
    (none_turned c.args.key.now c.args.row.now _ c.args.orders.now.entries)

pub returns-in-Sum : goal.returns-in-Sum
returns-in-Sum c =
    turned_for c.args.aggregate _ c.args.key.now c.args.row.now _ c.args.orders.now.entries c.args.orders.now.entries c.in-Sum.is
    (none_turned c.args.key.now c.args.row.now _ c.args.orders.now.entries)

-- MIN and MAX rank their own
pub returns-in_ok-turn_at-in-Min : goal.returns-in_ok-turn_at-in-Min
returns-in_ok-turn_at-in-Min c =
    let fits : SFits w128 c.args.diff = search (rules, ints) in
    let turned = rw to_z-of_z at c.in_ok-turn_at-in-Min.ensures in
    turned_for c.args.aggregate _ c.args.key.now c.args.row.now _ c.args.orders.now.entries _ c.in-Min.is turned

pub returns-in_ok-turn_at-in-Max : goal.returns-in_ok-turn_at-in-Max
returns-in_ok-turn_at-in-Max c =
    let fits : SFits w128 c.args.diff = search (rules, ints) in
    let turned = rw to_z-of_z at c.in_ok-turn_at-in-Max.ensures in
    turned_for c.args.aggregate _ c.args.key.now c.args.row.now _ c.args.orders.now.entries _ c.in-Max.is turned
