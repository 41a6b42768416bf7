use Rattle.std.proofs.Common.{◌≡◌, ◌+ℤ◌, sym, ap, subst, ◌∙◌}
use Rattle.std.specs.FinMap.{entries}
use Rattle.std.specs.List.{IsDistinct}
use Rattle.std.specs.Map.{keys_of}
use Rattle.mz_value.specs.Row.{row_eq}
use Rattle.mz_bag.specs.Bag.{Fits}
use Rattle.mz_bag.specs.Weighted.{Weighted, count}
use Rattle.mz_bag.proofs.BagLaws.{count-append, count-entries, IsDistinct-entries}
use Rattle.mz_arrange.proofs.ordered.add_bag.Goals as goal

-- no row stands twice in a bag
pub add_all-requires-clause-once : goal.add_all-requires-clause-once
add_all-requires-clause-once c = subst (λ (ws : Weighted). IsDistinct row_eq (keys_of ws)) (sym (c.into_vec-more.ensures ∙ c.in_ok-into_counted.ensures.rows)) (IsDistinct-entries c.args.more)

-- each count with the new one is within the bound
pub add_all-requires-clause-fits : goal.add_all-requires-clause-fits
add_all-requires-clause-fits c q =
    subst Fits
    (sym ((λ i. c.make_places.ensures.same.counts q i +ℤ count q ((c.into_vec-more.ensures ∙ c.in_ok-into_counted.ensures.rows) i)) ∙ ap (λ z. count q c.args.rows.now.entries +ℤ z) (count-entries c.args.more q)))
    (c.requires q)

-- so each row is there as often as in both
pub returns-clause-ok : goal.returns-clause-ok
returns-clause-ok c = record {
  counts = λ q.
      let more : c.into_vec-more.result.items ≡ entries c.args.more = c.into_vec-more.ensures ∙ c.in_ok-into_counted.ensures.rows in
      c.add_all.ensures.counts q
      ∙ count-append q c.make_places.new.rows.entries c.into_vec-more.result.items
      ∙ (λ i. c.make_places.ensures.same.counts q i +ℤ count q (more i))
      ∙ sym (count-append q c.args.rows.now.entries (entries c.args.more));
}
