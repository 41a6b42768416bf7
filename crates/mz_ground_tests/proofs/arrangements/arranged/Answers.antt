use Rattle.std.proofs.Common.{◌≡◌, ◌+ℤ◌, pos, sym, ap, subst, ◌∙◌, arith}
use Rattle.std.proofs.lemmas.Int.{ints}
use Rattle.mz_bag.specs.Bag.{Counts, count_in, Fits}
use Rattle.mz_bag.specs.Weighted.{bag_of}
use Rattle.mz_bag.proofs.BagLaws.{count_in-empty, count_in-bag_of}
use Rattle.mz_bag.proofs.MassLaws.{light_fits}
use Rattle.mz_updates.specs.Contents.{contents}
use Rattle.mz_updates.proofs.LightLists.{light_contents}
use Rattle.mz_arrange.specs.Arranged.{rows_at}
use Rattle.mz_ground_tests.proofs.arrangements.arranged.Goals as goal

-- at first no row is there, and the changes are light
pub insert-requires-clause-fits : goal.insert-requires-clause-fits
insert-requires-clause-fits g c = record {
  fits = λ t from. record {
    fits = λ q.
        let us = c.in_ok-updates.updates in
        let none : count_in (rows_at c.at-arrangement.result t) q ≡ pos 0 = ap (λ (b : Counts). count_in b q) (c.at-arrangement.ensures.no_row t) ∙ count_in-empty q in
        let all : count_in (bag_of (contents t us)) q ≡ count_in (rows_at c.at-arrangement.result t) q +ℤ count_in (bag_of (contents t us)) q = omega (arith, ints) in
        subst Fits (sym (count_in-bag_of (contents t us) q) ∙ all)
        (light_fits (contents t us) q ((light_contents 0 us c.in_ok-updates.ensures.light).light t (omega arith)));
  };
}
