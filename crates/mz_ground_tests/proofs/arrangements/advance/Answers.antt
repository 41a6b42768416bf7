use Rattle.std.proofs.Common.{◌≡◌, ◌+ℤ◌, pos, ap, subst, ◌∙◌, arith}
use Rattle.std.proofs.lemmas.Int.{ints}
use Rattle.mz_bag.specs.Bag.{count_in, Fits}
use Rattle.mz_bag.specs.Weighted.{bag_of}
use Rattle.mz_bag.proofs.BagLaws.{count_in-empty}
use Rattle.mz_updates.specs.Contents.{contents}
use Rattle.mz_arrange.specs.Arranged.{rows_at}
use Rattle.mz_ground_tests.proofs.arrangements.advance.Goals as goal

-- what is kept fits, and nothing is added
pub insert-requires-clause-fits : goal.insert-requires-clause-fits
insert-requires-clause-fits c = record {
  fits = λ t from. record {
    fits = λ q.
        let none : count_in (bag_of (contents t c.empty-none.result)) q ≡ pos 0 = ap (λ us. count_in (bag_of (contents t us)) q) c.empty-none.ensures ∙ count_in-empty q in
        let all : count_in (rows_at c.args.arrangement.now t) q ≡ count_in (rows_at c.args.arrangement.now t) q +ℤ count_in (bag_of (contents t c.empty-none.result)) q = omega (arith, ints) in
        subst Fits all ((c.since-since.ensures.stored t from).fits q);
  };
}
