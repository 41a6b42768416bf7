use Rattle.std.proofs.Common.{sym, ap, ◌∙◌, refl}
use Rattle.mz_bag.specs.Weighted.{Weighted, count}
use Rattle.mz_bag.proofs.BagLaws.{count_in-map_of}
use Rattle.mz_seq.specs.Stored.{has_row}
use Rattle.mz_seq.proofs.StoredLemmas.{comes_behind, not_that}
use Rattle.mz_seq.proofs.UsedLemmas.{lacks_both}
use Rattle.mz_seq.proofs.counts.make_places.Goals as goal

-- all of the change is still to come
pub rows-init : goal.rows-init
rows-init c = record {
  counts = λ q. refl;
  kept = λ q none. none;
  only = λ q none has. has;
  among = λ q none. ap (λ (es : Weighted). has_row es q) (c.into_iter-row-iterator.ensures.into_iter_gives ∙ c.iter-row-items.ensures.rest) ∙ none;
  left = λ q none. ap (count q) (c.into_iter-row-iterator.ensures.into_iter_gives ∙ c.iter-row-items.ensures.rest)
      ∙ sym (count_in-map_of q c.args.change.now.entries c.len-rows.ensures.unique);
}

-- the row has a place, so what comes to one without comes behind
pub rows-preserved : goal.rows-preserved
rows-preserved c = record {
  counts = λ q. c.make_place.ensures.counts q ∙ c.rows.invariant.counts q;
  kept = λ q none. c.rows.invariant.kept q (c.make_place.ensures.kept q none);
  only = λ q none has.
      let lacks = lacks_both c.in-Some.row.now q c.in-Some._diff.now c.next.new.self
      (ap (λ (es : Weighted). has_row es q) (sym c.in-Some.ensures.steps) ∙ c.rows.invariant.among q none) in
      c.rows.invariant.only q none (c.make_place.ensures.only q lacks.0 has);
  among = λ q none.
      let lacks = lacks_both c.in-Some.row.now q c.in-Some._diff.now c.next.new.self
      (ap (λ (es : Weighted). has_row es q) (sym c.in-Some.ensures.steps) ∙ c.rows.invariant.among q none) in
      lacks.1;
  left = λ q none. comes_behind c.in-Some.row.now c.in-Some._diff.now c.next.new.self q _
      (not_that c.make_place.new.counts.entries c.in-Some.row.now q c.in_ok-make_place.ensures.there none)
      (ap (count q) (sym c.in-Some.ensures.steps) ∙ c.rows.invariant.left q (c.make_place.ensures.kept q none));
}

-- in the end nothing is to come
pub returns-clause-there : goal.returns-clause-there
returns-clause-there c = record { covers = λ q none. sym (c.rows.invariant.left q none) ∙ ap (count q) c.in-None.ensures.steps.0 }
