use Rattle.std.specs.Vec.Iter.{into_iter_items}
use Rattle.mz_reduce.specs.Grouping.{IsOn}
use Rattle.mz_reduce.specs.Orders.{AreOrders}
use Rattle.mz_reduce.specs.Totals.{AreTotals}
use Rattle.mz_reduce.proofs.group.all_in.Given as goal

-- some rows came in, and there is room for the others
abbrev pub invariant-rows : goal.invariant-rows
invariant-rows l = record {
  on : IsOn l.places l.aggregates l.initial.groups l.groups l.fn.rows.items (into_iter_items l.row-iterator) l.touched.keys l.out.items;
  totals_are : AreTotals l.aggregates l.groups l.totals.entries;
  orders_are : AreOrders l.aggregates l.groups l.orders.entries;
}
