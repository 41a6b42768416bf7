use Rattle.std.proofs.Common.{◌++◌, rules, SFits, ap, ◌∙◌, sym, subst}
use Rattle.std.specs.Int.{w128}
use Rattle.std.proofs.lemmas.Int.{ints, to_z-of_z}
use Rattle.std.proofs.lemmas.List.{append-nil}
use Rattle.std.specs.FinMap.{entries}
use Rattle.mz_bag.specs.Bag.{Counts, IsBag}
use Rattle.mz_bag.proofs.BagLaws.{entries-empty, IsBag-empty}
use Rattle.mz_keyed.specs.Keyed.{rows_of}
use Rattle.mz_reduce.specs.Grouping.{shown, AreBounded}
use Rattle.mz_reduce.specs.Orders.{order_of, IsOrder}
use Rattle.mz_reduce.specs.Totals.{told, totals_over}
use Rattle.mz_reduce.proofs.TotalsLaws.{told_over, totals_are_of}
use Rattle.mz_reduce.proofs.showing.push_shown.Goals as goal

-- the key has the totals of its rows, and the orders
pub push_by_totals-requires : goal.push_by_totals-requires
push_by_totals-requires c = totals_are_of c.args.aggregates.now c.in-Some.bag.now c.args.orders.now.entries c.args.key.now _
    (subst (λ (bag : Counts). AreBounded c.args.aggregates.now (entries bag)) (sym c.in-Some.ensures) c.requires.bounded)
    (λ place ranked. subst (λ (bag : Counts). IsOrder place bag (order_of c.args.orders.now.entries (place, c.args.key.now)))
    (sym c.in-Some.ensures) (c.requires.orders.each place c.args.key.now ranked))
    (c.requires.totals.each c.args.key.now ∙ ap (λ (bag : Counts). totals_over c.args.aggregates.now (entries bag)) (sym c.in-Some.ensures))

-- and they tell of its aggregates
pub returns-in_ok-push_by_totals-in-Some-clause-shown : goal.returns-in_ok-push_by_totals-in-Some-clause-shown
returns-in_ok-push_by_totals-in-Some-clause-shown c =
    let fits : SFits w128 c.args.weight = search (rules, ints) in
    let pushed = rw to_z-of_z at c.in_ok-push_by_totals-in-Some.ensures.shown in
    pushed
    ∙ (λ i. c.args.out.now.items ++ shown ((ap told (c.requires.totals.each c.args.key.now)
    ∙ told_over c.args.aggregates.now (entries (rows_of c.args.groups.now c.args.key.now))) i)
    c.args.key.now c.args.weight (entries (c.in-Some.ensures i)))

-- without rows nothing is shown
pub returns-in-None-clause-shown : goal.returns-in-None-clause-shown
returns-in-None-clause-shown c = sym (ap (λ ws. c.args.out.now.items ++ shown c.args.aggregates.now c.args.key.now c.args.weight ws)
    (ap (λ (bag : Counts). entries bag) c.in-None.ensures ∙ entries-empty) ∙ append-nil c.args.out.now.items)

pub returns-in-None-clause-bag : goal.returns-in-None-clause-bag
returns-in-None-clause-bag c = subst IsBag (sym c.in-None.ensures) IsBag-empty
