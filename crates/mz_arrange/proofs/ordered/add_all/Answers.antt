use Rattle.std.proofs.Common.{◌≡◌, ◌+ℤ◌, pos, [], ◌∷◌, length, rules, SFits, sym, ap, subst, ◌∙◌, arith}
use Rattle.std.specs.Int.{w128}
use Rattle.std.specs.BTreeMap.{get}
use Rattle.std.specs.List.{AllByRecursion as Each, IsDistinct}
use Rattle.std.specs.Map.{keys_of}
use Rattle.std.specs.Option.{IsSome}
use Rattle.std.specs.Vec.Iter.{into_iter_items, into_iter_len}
use Rattle.std.proofs.lemmas.Int.{ints, to_z-of_z}
use Rattle.std.proofs.lemmas.Map.Keys.{IsDistinct-head, IsDistinct-tail}
use Rattle.mz_value.specs.Row.{row_cmp, row_eq}
use Rattle.mz_bag.specs.Bag.{Fits}
use Rattle.mz_bag.specs.Weighted.{Weighted, count}
use Rattle.mz_bag.proofs.BagLaws.{count-append}
use Rattle.mz_bag.proofs.StoredCounts.{count-first}
use Rattle.mz_arrange.proofs.OrderedLaws.{no_row, places_kept, summed_next}
use Rattle.mz_arrange.proofs.ordered.add_all.Goals as goal

-- the next row has its place
pub add_to-requires-clause-place : goal.add_to-requires-clause-place
add_to-requires-clause-place c =
    let step : into_iter_items c.adding.row-iterator ≡ (c.in-Some.row, c.in-Some.diff) ∷ into_iter_items c.next.new.self = search rules in
    (subst (λ (ws : Weighted). Each (λ w. IsSome (get row_cmp c.adding.rows w.0)) ws) step c.adding.invariant.places).0

-- its count is as it was, and all of its weight comes now
pub add_to-requires-clause-fits : goal.add_to-requires-clause-fits
add_to-requires-clause-fits c =
    let ranged : SFits w128 c.in-Some.diff = search (rules, ints) in
    let rest = into_iter_items c.next.new.self in
    let step : into_iter_items c.adding.row-iterator ≡ (c.in-Some.row, c.in-Some.diff) ∷ rest = search rules in
    let once : IsDistinct row_eq (keys_of ((c.in-Some.row, c.in-Some.diff) ∷ rest)) = subst (λ (ws : Weighted). IsDistinct row_eq (keys_of ws)) step c.adding.invariant.once in
    let all : count c.in-Some.row c.adding.rows.entries +ℤ c.in-Some.diff ≡ count c.in-Some.row c.args.rows.now.entries +ℤ count c.in-Some.row c.args.more.items =
    ap (λ z. count c.in-Some.row c.adding.rows.entries +ℤ z) (sym (ap (count c.in-Some.row) step ∙ count-first c.in-Some.row c.in-Some.diff rest once)) ∙ c.adding.invariant.summed c.in-Some.row in
    rw to_z-of_z (subst Fits (sym all) (c.requires.fits c.in-Some.row))

-- the weight has gone from what is to come among the rows
pub adding-preserved : goal.adding-preserved
adding-preserved c =
    let ranged : SFits w128 c.in-Some.diff = search (rules, ints) in
    let rest = into_iter_items c.next.new.self in
    let step : into_iter_items c.adding.row-iterator ≡ (c.in-Some.row, c.in-Some.diff) ∷ rest = search rules in
    let once : IsDistinct row_eq (keys_of ((c.in-Some.row, c.in-Some.diff) ∷ rest)) = subst (λ (ws : Weighted). IsDistinct row_eq (keys_of ws)) step c.adding.invariant.once in
    let added = rw to_z-of_z at c.add_to.ensures.added in
    record {
      places = places_kept c.adding.rows c.add_to.new.rows c.in-Some.row rest c.add_to.ensures.others (IsDistinct-head row_eq c.in-Some.row (keys_of rest) once)
          (subst (λ (ws : Weighted). Each (λ w. IsSome (get row_cmp c.adding.rows w.0)) ws) step c.adding.invariant.places).1;
      once = IsDistinct-tail row_eq c.in-Some.row (keys_of rest) once;
      summed = λ q. summed_next q c.adding.rows.entries c.add_to.new.rows.entries c.in-Some.row c.in-Some.diff rest added
          ∙ ap (λ (ws : Weighted). count q c.adding.rows.entries +ℤ count q ws) (sym step) ∙ c.adding.invariant.summed q;
    }

-- till none is left
pub returns : goal.returns
returns c =
    let left : into_iter_len c.adding.row-iterator ≡ 0 = c.in-None.ensures.steps.0 in
    let length_left : length (into_iter_items c.adding.row-iterator) ≡ 0 = search (rules, arith) in
    let none : into_iter_items c.adding.row-iterator ≡ [] = no_row (into_iter_items c.adding.row-iterator) length_left in
    record {
      counts = λ q.
          let last : count q (into_iter_items c.adding.row-iterator) ≡ pos 0 = ap (count q) none in
          omega (arith, ints, last, c.adding.invariant.summed q, count-append q c.args.rows.now.entries c.args.more.items);
    }
