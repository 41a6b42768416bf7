use Rattle.std.proofs.Common.{sym, subst, ◌∙◌}
use Rattle.mz_bag.specs.Bag.{map_of, Fits}
use Rattle.mz_bag.proofs.BagLaws.{same_counts, IsBag-sum_of, count_in-sum_of}
use Rattle.mz_bag.proofs.StoredCounts.{count-both}
use Rattle.mz_bag.proofs.bag.merge_into.Goals as goal

-- the copies count as the other map
pub add_all-requires-clause-fits : goal.add_all-requires-clause-fits
add_all-requires-clause-fits c q =
    subst Fits (sym (count-both c.args.counts.now.entries c.reserve.new.self.entries c.in_ok-more.more.items c.args.other.now.entries q c.in_ok-reserve.ensures.entries c.in_ok-more.ensures.items c.in_ok-more.ensures.once)) (c.requires.fits.fits q)

-- each row is counted as often as in both
pub returns-clause-ok : goal.returns-clause-ok
returns-clause-ok c =
    same_counts _ _ c.add_all.ensures.stored.no_zero (IsBag-sum_of (map_of c.args.counts.now.entries) (map_of c.args.other.now.entries)) (λ q.
    c.add_all.ensures.counts q
    ∙ count-both c.args.counts.now.entries c.reserve.new.self.entries c.in_ok-more.more.items c.args.other.now.entries q c.in_ok-reserve.ensures.entries c.in_ok-more.ensures.items c.in_ok-more.ensures.once
    ∙ sym (count_in-sum_of (map_of c.args.counts.now.entries) (map_of c.args.other.now.entries) q))
