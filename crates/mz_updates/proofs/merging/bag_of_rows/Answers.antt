use Rattle.std.proofs.Common.{◌≡◌, ◌+ℤ◌, ◌∷◌, [], List, length, pos, rules, SFits, sym, ap, subst, ◌∙◌, arith}
use Rattle.std.specs.Int.{w128}
use Rattle.std.specs.List.{IsDistinct}
use Rattle.std.specs.Map.{keys_of}
use Rattle.std.specs.Vec.Iter.{into_iter_items, into_iter_len}
use Rattle.std.proofs.lemmas.Int.{ints, to_z-of_z}
use Rattle.std.proofs.lemmas.Map.Keys.{IsDistinct-tail}
use Rattle.mz_value.specs.Row.{row_eq}
use Rattle.mz_bag.specs.Bag.{Counts, count_in, with_count, Fits, IsBag}
use Rattle.mz_bag.specs.Weighted.{count, bag_of}
use Rattle.mz_bag.proofs.BagLaws.{IsBag-empty, IsBag-with_count, IsBag-bag_of, count_in-empty, count_in-bag_of, same_counts}
use Rattle.mz_bag.proofs.StoredCounts.{count-first, count_in-next}
use Rattle.mz_updates.specs.declared.update.Update.{Update}
use Rattle.mz_updates.specs.Contents.{weights}
use Rattle.mz_updates.proofs.RowBags.{no_update}
use Rattle.mz_updates.proofs.merging.bag_of_rows.Goals as goal

-- at first all is to come
pub updates-init : goal.updates-init
updates-init c =
    let all : into_iter_items c.into_iter-row-iterator.result ≡ c.args.updates.items = search rules in
    record {
      once = subst (λ (us : List Update). IsDistinct row_eq (keys_of (weights us))) (sym all) c.requires.once;
      bag = subst IsBag (sym c.empty-bag.ensures) IsBag-empty;
      summed = λ q. (λ i. count_in (c.empty-bag.ensures i) q +ℤ count q (weights (all i))) ∙ omega (arith, ints, count_in-empty q);
    }

-- a row's count is 0 till its weight comes
pub add-requires : goal.add-requires
add-requires c =
    let ranged : SFits w128 c.in-Some.field-0.diff = search (rules, ints) in
    let rest = into_iter_items c.next.new.self in
    let next : into_iter_items c.updates.row-iterator ≡ c.in-Some.field-0 ∷ rest = c.in-Some.ensures.steps.0 in
    let once : IsDistinct row_eq (keys_of (weights (c.in-Some.field-0 ∷ rest))) = subst (λ (us : List Update). IsDistinct row_eq (keys_of (weights us))) next c.updates.invariant.once in
    let all : count_in c.updates.bag c.in-Some.field-0.row +ℤ c.in-Some.field-0.diff ≡ count c.in-Some.field-0.row (weights c.args.updates.items) =
    ap (λ z. count_in c.updates.bag c.in-Some.field-0.row +ℤ z)
    (sym (ap (λ (us : List Update). count c.in-Some.field-0.row (weights us)) next ∙ count-first c.in-Some.field-0.row c.in-Some.field-0.diff (weights rest) once))
    ∙ c.updates.invariant.summed c.in-Some.field-0.row in
    rw to_z-of_z (subst Fits (sym all) (c.requires.fits c.in-Some.field-0.row))

-- the weight has gone from what is to come into the bag
pub updates-preserved : goal.updates-preserved
updates-preserved c =
    let ranged : SFits w128 c.in-Some.field-0.diff = search (rules, ints) in
    let rest = into_iter_items c.next.new.self in
    let next : into_iter_items c.updates.row-iterator ≡ c.in-Some.field-0 ∷ rest = c.in-Some.ensures.steps.0 in
    let once : IsDistinct row_eq (keys_of (weights (c.in-Some.field-0 ∷ rest))) = subst (λ (us : List Update). IsDistinct row_eq (keys_of (weights us))) next c.updates.invariant.once in
    let added : c.add.new.self ≡ with_count c.updates.bag c.in-Some.field-0.row (count_in c.updates.bag c.in-Some.field-0.row +ℤ c.in-Some.field-0.diff) = rw to_z-of_z at c.in_ok-add.ensures.ok in
    record {
      once = IsDistinct-tail row_eq c.in-Some.field-0.row (keys_of (weights rest)) once;
      bag = subst IsBag (sym added) (IsBag-with_count c.updates.bag c.in-Some.field-0.row (count_in c.updates.bag c.in-Some.field-0.row +ℤ c.in-Some.field-0.diff) c.updates.invariant.bag);
      summed = λ q. ap (λ (b : Counts). count_in b q +ℤ count q (weights rest)) added ∙ count_in-next c.updates.bag c.in-Some.field-0.row c.in-Some.field-0.diff (weights rest) q
          ∙ ap (λ (us : List Update). count_in c.updates.bag q +ℤ count q (weights us)) (sym next) ∙ c.updates.invariant.summed q;
    }

-- in the end all is counted
pub returns : goal.returns
returns c =
    let left : into_iter_len c.updates.row-iterator ≡ 0 = c.in-None.ensures.steps.0 in
    let length_left : length (into_iter_items c.updates.row-iterator) ≡ 0 = search (rules, arith) in
    let none : into_iter_items c.updates.row-iterator ≡ [] = no_update (into_iter_items c.updates.row-iterator) length_left in
    same_counts c.updates.bag (bag_of (weights c.args.updates.items)) c.updates.invariant.bag (IsBag-bag_of (weights c.args.updates.items)) (λ q.
    (let nothing : count q (weights (into_iter_items c.updates.row-iterator)) ≡ pos 0 = ap (λ (us : List Update). count q (weights us)) none in omega (arith, ints, c.updates.invariant.summed q))
    ∙ sym (count_in-bag_of (weights c.args.updates.items) q))
