use Rattle.std.proofs.Common.{◌≡◌, [], ◌∷◌, length, rules, SFits, subst, arith}
use Rattle.std.specs.Int.{w128}
use Rattle.std.specs.Vec.Iter.{into_iter_items, into_iter_len}
use Rattle.std.proofs.lemmas.Int.{ints, to_z-of_z}
use Rattle.mz_bag.specs.Weighted.{Weighted}
use Rattle.mz_reduce.proofs.CountingLaws.{no_row}
use Rattle.mz_dataflow.proofs.AddingLaws.{adding_begun, all_added, next_added, next_fits, IsAdding}
use Rattle.mz_dataflow.proofs.adding.bag_of.Goals as goal

-- no row was added yet
pub rows-init : goal.rows-init
rows-init c =
    let all : into_iter_items c.into_iter-row-iterator.result ≡ c.args.rows.items = search rules in
    adding_begun c.empty-bag.result c.args.rows.items (into_iter_items c.into_iter-row-iterator.result) c.empty-bag.ensures all

-- the next one fits
pub add-requires : goal.add-requires
add-requires c =
    let fits : SFits w128 c.in-Some.diff = search (rules, ints) in
    let step : into_iter_items c.rows.row-iterator ≡ (c.in-Some.row, c.in-Some.diff) ∷ into_iter_items c.next.new.self = search rules in
    rw to_z-of_z (next_fits c.rows.bag c.args.rows.items c.in-Some.row c.in-Some.diff (into_iter_items c.next.new.self) c.requires
    (subst (λ (ws : Weighted). IsAdding c.rows.bag c.args.rows.items ws) step c.rows.invariant))

-- and is added
pub rows-preserved : goal.rows-preserved
rows-preserved c =
    let fits : SFits w128 c.in-Some.diff = search (rules, ints) in
    let step : into_iter_items c.rows.row-iterator ≡ (c.in-Some.row, c.in-Some.diff) ∷ into_iter_items c.next.new.self = search rules in
    let added = rw to_z-of_z at c.in_ok-add.ensures.ok in
    next_added c.rows.bag c.add.new.self c.args.rows.items c.in-Some.row c.in-Some.diff (into_iter_items c.next.new.self) added
    (subst (λ (ws : Weighted). IsAdding c.rows.bag c.args.rows.items ws) step c.rows.invariant)

-- till none is left
pub returns : goal.returns
returns c =
    let left : into_iter_len c.rows.row-iterator ≡ 0 = c.in-None.ensures.steps.0 in
    let length_left : length (into_iter_items c.rows.row-iterator) ≡ 0 = search (rules, arith) in
    let none : into_iter_items c.rows.row-iterator ≡ [] = no_row (into_iter_items c.rows.row-iterator) length_left in
    all_added c.rows.bag c.args.rows.items (into_iter_items c.rows.row-iterator) none c.rows.invariant
