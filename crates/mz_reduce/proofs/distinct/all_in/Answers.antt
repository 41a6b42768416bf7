use Rattle.std.proofs.Common.{◌≡◌, [], ◌∷◌, length, rules, SFits, sym, subst, arith}
use Rattle.std.specs.Int.{w128}
use Rattle.std.specs.Vec.Iter.{into_iter_items, into_iter_len}
use Rattle.std.proofs.lemmas.Int.{ints, to_z-of_z}
use Rattle.mz_bag.specs.Weighted.{Weighted}
use Rattle.mz_reduce.specs.Counting.{HasRoom, IsOn}
use Rattle.mz_reduce.proofs.CountingLaws.{begun, ended, no_row, one_more, room_fits}
use Rattle.mz_reduce.proofs.distinct.all_in.Goals as goal

-- no row came in yet
pub left-init : goal.left-init
left-init c =
    let all : into_iter_items c.into_iter-row-iterator.result ≡ c.args.left.items = search rules in
    subst (λ (ws : Weighted). IsOn c.args.rows.now c.args.rows.now c.args.left.items ws c.args.out.now.items) (sym all)
    (begun c.args.rows.now c.args.left.items c.args.out.now.items c.requires.room c.requires.none)

-- there is room for the next
pub row_in-requires : goal.row_in-requires
row_in-requires c =
    let fits : SFits w128 c.in-Some.diff = search (rules, ints) in
    let step : into_iter_items c.left.row-iterator ≡ (c.in-Some.row, c.in-Some.diff) ∷ into_iter_items c.next.new.self = search rules in
    rw to_z-of_z (room_fits c.left.rows c.in-Some.row c.in-Some.diff (into_iter_items c.next.new.self)
    (subst (λ (ws : Weighted). HasRoom c.left.rows ws) step c.left.invariant.room))

-- and it comes in
pub left-preserved : goal.left-preserved
left-preserved c =
    let fits : SFits w128 c.in-Some.diff = search (rules, ints) in
    let step : into_iter_items c.left.row-iterator ≡ (c.in-Some.row, c.in-Some.diff) ∷ into_iter_items c.next.new.self = search rules in
    let one = rw to_z-of_z at c.in_ok-row_in.ensures in
    one_more c.args.rows.now c.left.rows c.row_in.new.rows c.args.left.items (into_iter_items c.next.new.self)
    c.left.out.items c.row_in.new.out.items c.in-Some.row c.in-Some.diff
    (subst (λ (ws : Weighted). IsOn c.args.rows.now c.left.rows c.args.left.items ws c.left.out.items) step c.left.invariant) one

-- till none is left
pub returns : goal.returns
returns c =
    let left : into_iter_len c.left.row-iterator ≡ 0 = c.in-None.ensures.steps.0 in
    let length_left : length (into_iter_items c.left.row-iterator) ≡ 0 = search (rules, arith) in
    let none : into_iter_items c.left.row-iterator ≡ [] = no_row (into_iter_items c.left.row-iterator) length_left in
    ended c.args.rows.now c.left.rows c.args.left.items (into_iter_items c.left.row-iterator) c.left.out.items c.left.invariant none
