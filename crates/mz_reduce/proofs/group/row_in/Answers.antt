use Rattle.std.proofs.Common.{◌+ℤ◌, List, rules, SFits, sym, subst, ◌∙◌}
use Rattle.std.specs.FinMap.{entries}
use Rattle.std.specs.Int.{w128}
use Rattle.std.proofs.lemmas.Int.{ints, to_z-of_z}
use Rattle.mz_value.specs.declared.datum.Datum.{Datum}
use Rattle.mz_bag.specs.Bag.{count_in, Fits}
use Rattle.mz_keyed.specs.Keyed.{rows_of, IsAdded}
use Rattle.mz_reduce.specs.Grouping.{AreBounded, IsTouched}
use Rattle.mz_reduce.proofs.OrdersLaws.{one_ordered}
use Rattle.mz_reduce.proofs.TotalsLaws.{one_total}
use Rattle.mz_reduce.proofs.group.row_in.Goals as goal

-- the key is the row's
pub touch-requires-clause-bounded : goal.touch-requires-clause-bounded
touch-requires-clause-bounded c = subst
    (λ (key : List Datum). AreBounded c.args.aggregates.now (entries (rows_of c.args.groups.now key))) (sym c.in_ok-key.ensures) c.requires.bounded

pub add-requires : goal.add-requires
add-requires c =
    let fits : SFits w128 c.args.diff = search (rules, ints) in
    rw to_z-of_z (subst (λ (key : List Datum). Fits (count_in (rows_of c.args.groups.now key) c.args.row +ℤ c.args.diff))
    (sym (c.in_ok-kept.ensures ∙ c.in_ok-key.ensures)) c.requires.fits)

pub turn-requires : goal.turn-requires
turn-requires c =
    let fits : SFits w128 c.args.diff = search (rules, ints) in
    rw to_z-of_z (subst (λ (key : List Datum). Fits (count_in (rows_of c.args.groups.now key) c.args.row +ℤ c.args.diff))
    (sym c.in_ok-key.ensures) c.requires.fits)

-- so it is touched, and the row is kept
pub returns-clause-row : goal.returns-clause-row
returns-clause-row c =
    let fits : SFits w128 c.args.diff = search (rules, ints) in
    let added = rw to_z-of_z at c.in_ok-add.ensures in
    record {
      touched_key = subst (λ (key : List Datum). IsTouched c.args.aggregates.now c.args.groups.now key c.args.touched.now.keys c.touch.new.touched.keys c.args.out.now.items c.touch.new.out.items)
          c.in_ok-key.ensures c.in_ok-touch.ensures;
      added = subst (λ (key : List Datum). IsAdded key c.args.row c.args.diff c.args.groups.now c.add.new.self) (c.in_ok-kept.ensures ∙ c.in_ok-key.ensures) added;
    }

-- and its totals go with it
pub returns-clause-totals : goal.returns-clause-totals
returns-clause-totals c =
    let fits : SFits w128 c.args.diff = search (rules, ints) in
    let added = rw to_z-of_z at c.in_ok-add.ensures in
    let numbers = rw to_z-of_z at c.in_ok-numbers.ensures.numbers in
    one_total c.args.aggregates.now c.args.groups.now c.add.new.self c.args.totals.now.entries c.next_totals.new.totals.entries
    c.put_back.new.totals.entries c.in_ok-key.key c.args.row c.args.diff c.in_ok-numbers.numbers.items c.requires.totals
    (subst (λ (key : List Datum). IsAdded key c.args.row c.args.diff c.args.groups.now c.add.new.self) c.in_ok-kept.ensures added)
    numbers c.in_ok-numbers.ensures.rest c.in_ok-put_back.ensures

-- and its orders
pub returns-clause-orders : goal.returns-clause-orders
returns-clause-orders c =
    let fits : SFits w128 c.args.diff = search (rules, ints) in
    let added = rw to_z-of_z at c.in_ok-add.ensures in
    let turned = rw to_z-of_z at c.in_ok-turn.ensures in
    one_ordered c.args.aggregates.now c.args.groups.now c.add.new.self c.args.orders.now.entries c.turn.new.orders.entries
    c.in_ok-key.key c.args.row c.args.diff c.requires.orders
    (subst (λ (key : List Datum). IsAdded key c.args.row c.args.diff c.args.groups.now c.add.new.self) c.in_ok-kept.ensures added) turned
