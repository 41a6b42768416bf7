use Rattle.std.proofs.Common.{ap, sym, ◌∙◌}
use Rattle.mz_reduce.specs.Grouping.{taken, AreRegrouped}
use Rattle.mz_reduce.specs.Orders.{AreOrders}
use Rattle.mz_reduce.specs.Totals.{AreTotals}
use Rattle.mz_reduce.proofs.GroupLaws.{orders_same, regrouped_change, regrouped_same, regrouped_within, room_of, room_same, totals_same}
use Rattle.mz_reduce.proofs.group.GroupChanging.change.Goals as goal
use Rattle.mz_reduce.proofs.group.GroupChanging.change.Goals.{After-drop-right-inside-2}

-- each key has the totals of its rows
pub regrouped-requires-clause-totals : goal.regrouped-requires-clause-totals
regrouped-requires-clause-totals c =
    totals_same c.args.self.now.aggregates c.as_slice-aggregates.result.now c.args.self.now.groups c.args.self.now.totals.entries
    c.requires.stand.totals_are c.as_slice-aggregates.ensures

-- and their orders
pub regrouped-requires-clause-orders : goal.regrouped-requires-clause-orders
regrouped-requires-clause-orders c =
    orders_same c.args.self.now.aggregates c.as_slice-aggregates.result.now c.args.self.now.groups c.args.self.now.orders.entries
    c.requires.stand.orders_are c.as_slice-aggregates.ensures

-- there is room for the rows that are taken
pub regrouped-requires-clause-room : goal.regrouped-requires-clause-room
regrouped-requires-clause-room c =
    room_same c.args.self.now.places c.as_slice-places.result.now c.args.self.now.aggregates c.as_slice-aggregates.result.now
    c.args.self.now.groups c.args.left c.keep_taken.new.rows.items
    (room_of c.args.self.now.places c.args.self.now.aggregates c.args.self.now.groups c.args.self.now.totals.entries
    c.args.self.now.orders.entries c.args.left c.args._right c.requires)
    c.as_slice-places.ensures c.as_slice-aggregates.ensures
    (c.keep_taken.ensures ∙ ap (taken c.as_slice-aggregates.result.now) c.into_vec-rows.ensures)

-- and their groups have changed
whole : (c : After-drop-right-inside-2) → AreRegrouped c.args.self.now.places c.args.self.now.aggregates c.args.self.now.groups c.regrouped.new.groups
    (taken c.args.self.now.aggregates c.args.left) c.from_vec.result
whole c =
    regrouped_same c.args.self.now.places c.as_slice-places.result.now c.args.self.now.aggregates c.as_slice-aggregates.result.now
    c.args.self.now.groups c.regrouped.new.groups c.keep_taken.new.rows.items c.args.left c.in_ok-out.out.items c.from_vec.result
    c.in_ok-out.ensures.groups c.as_slice-places.ensures c.as_slice-aggregates.ensures
    (c.keep_taken.ensures ∙ ap (taken c.as_slice-aggregates.result.now) c.into_vec-rows.ensures) c.from_vec.ensures

-- with their totals
sums : (c : After-drop-right-inside-2) → AreTotals c.args.self.now.aggregates c.regrouped.new.groups c.regrouped.new.totals.entries
sums c =
    totals_same c.as_slice-aggregates.result.now c.args.self.now.aggregates c.regrouped.new.groups c.regrouped.new.totals.entries
    c.in_ok-out.ensures.totals (sym c.as_slice-aggregates.ensures)

-- and orders
ranks : (c : After-drop-right-inside-2) → AreOrders c.args.self.now.aggregates c.regrouped.new.groups c.regrouped.new.orders.entries
ranks c =
    orders_same c.as_slice-aggregates.result.now c.args.self.now.aggregates c.regrouped.new.groups c.regrouped.new.orders.entries
    c.in_ok-out.ensures.orders (sym c.as_slice-aggregates.ensures)

pub returns-clause-law : goal.returns-clause-law
returns-clause-law c = regrouped_change _ _ _ _ _ _ _ _ _ _ _ (whole c) (sums c) (ranks c)

pub returns-clause-light : goal.returns-clause-light
returns-clause-light c = regrouped_within _ _ _ _ _ _ _ _ _ (whole c)
