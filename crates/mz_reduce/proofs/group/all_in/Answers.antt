use Rattle.std.proofs.Common.{◌≡◌, [], ◌∷◌, length, rules, SFits, sym, subst, arith}
use Rattle.std.specs.Int.{w128}
use Rattle.std.specs.Vec.Iter.{into_iter_items, into_iter_len}
use Rattle.std.proofs.lemmas.Int.{ints, to_z-of_z}
use Rattle.mz_bag.specs.Weighted.{Weighted}
use Rattle.mz_plan.specs.Value.{cells}
use Rattle.mz_reduce.specs.Grouping.{HasRoom, IsOn}
use Rattle.mz_reduce.proofs.CountingLaws.{no_row}
use Rattle.mz_reduce.proofs.GroupRoom.{begun, ended, one_more, room_bounded, room_fits}
use Rattle.mz_reduce.proofs.group.all_in.Goals as goal

-- no row came in yet
pub rows-init : goal.rows-init
rows-init c =
    let all : into_iter_items c.into_iter-row-iterator.result ≡ c.args.rows.items = search rules in
    record {
      on = subst (λ (ws : Weighted). IsOn c.args.places.now c.args.aggregates.now c.args.groups.now c.args.groups.now c.args.rows.items ws c.args.touched.now.keys c.args.out.now.items) (sym all)
          (begun c.args.places.now c.args.aggregates.now c.args.groups.now c.args.rows.items c.args.touched.now.keys c.args.out.now.items
          c.requires.room c.requires.untouched c.requires.none);
      totals_are = c.requires.totals;
      orders_are = c.requires.orders;
    }

-- there is room for the next
pub row_in-requires-clause-fits : goal.row_in-requires-clause-fits
row_in-requires-clause-fits c =
    let fits : SFits w128 c.in-Some.diff = search (rules, ints) in
    let step : into_iter_items c.rows.row-iterator ≡ (c.in-Some.row, c.in-Some.diff) ∷ into_iter_items c.next.new.self = search rules in
    rw to_z-of_z (room_fits c.args.places.now c.args.aggregates.now c.rows.groups c.in-Some.row c.in-Some.diff (into_iter_items c.next.new.self)
    (subst (λ (ws : Weighted). HasRoom c.args.places.now c.args.aggregates.now c.rows.groups ws) step c.rows.invariant.on.room)
    (cells c.args.places.now c.in-Some.row))

-- and its group is bounded
pub row_in-requires-clause-bounded : goal.row_in-requires-clause-bounded
row_in-requires-clause-bounded c =
    room_bounded c.args.places.now c.args.aggregates.now c.rows.groups (into_iter_items c.rows.row-iterator) c.rows.invariant.on.room
    (cells c.args.places.now c.in-Some.row)

-- and it comes in
pub rows-preserved : goal.rows-preserved
rows-preserved c =
    let fits : SFits w128 c.in-Some.diff = search (rules, ints) in
    let step : into_iter_items c.rows.row-iterator ≡ (c.in-Some.row, c.in-Some.diff) ∷ into_iter_items c.next.new.self = search rules in
    let one = rw to_z-of_z at c.in_ok-row_in.ensures.row in
    record {
      on = one_more c.args.places.now c.args.aggregates.now c.args.groups.now c.rows.groups c.row_in.new.groups c.args.rows.items (into_iter_items c.next.new.self)
          c.rows.touched.keys c.row_in.new.touched.keys c.rows.out.items c.row_in.new.out.items c.in-Some.row c.in-Some.diff
          (subst (λ (ws : Weighted). IsOn c.args.places.now c.args.aggregates.now c.args.groups.now c.rows.groups c.args.rows.items ws c.rows.touched.keys c.rows.out.items) step c.rows.invariant.on) one;
      totals_are = c.in_ok-row_in.ensures.totals;
      orders_are = c.in_ok-row_in.ensures.orders;
    }

-- till none is left
pub returns-clause-came : goal.returns-clause-came
returns-clause-came c =
    let left : into_iter_len c.rows.row-iterator ≡ 0 = c.in-None.ensures.steps.0 in
    let length_left : length (into_iter_items c.rows.row-iterator) ≡ 0 = search (rules, arith) in
    let none : into_iter_items c.rows.row-iterator ≡ [] = no_row (into_iter_items c.rows.row-iterator) length_left in
    (ended c.args.places.now c.args.aggregates.now c.args.groups.now c.rows.groups c.args.rows.items (into_iter_items c.rows.row-iterator)
    c.rows.touched.keys c.rows.out.items c.rows.invariant.on none).0

pub returns-clause-room : goal.returns-clause-room
returns-clause-room c =
    let left : into_iter_len c.rows.row-iterator ≡ 0 = c.in-None.ensures.steps.0 in
    let length_left : length (into_iter_items c.rows.row-iterator) ≡ 0 = search (rules, arith) in
    let none : into_iter_items c.rows.row-iterator ≡ [] = no_row (into_iter_items c.rows.row-iterator) length_left in
    (ended c.args.places.now c.args.aggregates.now c.args.groups.now c.rows.groups c.args.rows.items (into_iter_items c.rows.row-iterator)
    c.rows.touched.keys c.rows.out.items c.rows.invariant.on none).1
