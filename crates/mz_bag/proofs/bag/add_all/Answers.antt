use Rattle.std.proofs.Common.{◌≡◌, ◌+ℤ◌, ◌∷◌, length, rules, SFits, sym, ap, subst, ◌∙◌, arith}
use Rattle.std.specs.Int.{w128}
use Rattle.std.specs.List.{IsDistinct}
use Rattle.std.specs.Map.{keys_of}
use Rattle.std.specs.Vec.Iter.{into_iter_items}
use Rattle.std.proofs.lemmas.Int.{ints, to_z-of_z}
use Rattle.std.proofs.lemmas.Map.Keys.{IsDistinct-tail}
use Rattle.mz_value.specs.Row.{row_eq}
use Rattle.mz_bag.specs.Bag.{count_in, with_count, map_of, Fits, IsBag}
use Rattle.mz_bag.specs.Weighted.{Weighted, count}
use Rattle.mz_bag.proofs.BagLaws.{IsBag-with_count}
use Rattle.mz_bag.proofs.StoredCounts.{count-first, count_in-next}
use Rattle.mz_bag.proofs.bag.add_all.Goals as goal

-- a row's count is as it was, and all of its weight comes now
pub add_to-requires : goal.add_to-requires
add_to-requires c =
    let ranged : SFits w128 c.in-Some.diff = search (rules, ints) in
    let now = map_of c.rows.counts.entries in
    let rest = into_iter_items c.next.new.self in
    let next : into_iter_items c.rows.row-iterator ≡ (c.in-Some.row, c.in-Some.diff) ∷ rest = c.in-Some.ensures.steps.0 in
    let once : IsDistinct row_eq (keys_of ((c.in-Some.row, c.in-Some.diff) ∷ rest)) = subst (λ (es : Weighted). IsDistinct row_eq (keys_of es)) next c.rows.invariant.once in
    let all : count_in now c.in-Some.row +ℤ c.in-Some.diff ≡ count_in (map_of c.args.counts.now.entries) c.in-Some.row +ℤ count c.in-Some.row c.args.more.items =
    ap (λ z. count_in now c.in-Some.row +ℤ z) (sym (ap (count c.in-Some.row) next ∙ count-first c.in-Some.row c.in-Some.diff rest once)) ∙ c.rows.invariant.summed c.in-Some.row in
    rw to_z-of_z (subst Fits (sym all) (c.requires.fits c.in-Some.row))

-- the weight has gone from what is to come into the map
pub rows-preserved : goal.rows-preserved
rows-preserved c =
    let ranged : SFits w128 c.in-Some.diff = search (rules, ints) in
    let now = map_of c.rows.counts.entries in
    let rest = into_iter_items c.next.new.self in
    let next : into_iter_items c.rows.row-iterator ≡ (c.in-Some.row, c.in-Some.diff) ∷ rest = c.in-Some.ensures.steps.0 in
    let once : IsDistinct row_eq (keys_of ((c.in-Some.row, c.in-Some.diff) ∷ rest)) = subst (λ (es : Weighted). IsDistinct row_eq (keys_of es)) next c.rows.invariant.once in
    let done = rw c.unwrap.ensures at c.add_to.ensures.ok in
    let added : map_of c.add_to.new.counts.entries ≡ with_count now c.in-Some.row (count_in now c.in-Some.row +ℤ c.in-Some.diff) = rw to_z-of_z at done in
    record {
      room = omega (arith, ap length next);
      once = IsDistinct-tail row_eq c.in-Some.row (keys_of rest) once;
      bag = subst IsBag (sym added) (IsBag-with_count now c.in-Some.row (count_in now c.in-Some.row +ℤ c.in-Some.diff) c.rows.invariant.bag);
      summed = λ q. ap (λ b. count_in b q +ℤ count q rest) added ∙ count_in-next now c.in-Some.row c.in-Some.diff rest q ∙ ap (λ (es : Weighted). count_in now q +ℤ count q es) (sym next) ∙ c.rows.invariant.summed q;
    }
