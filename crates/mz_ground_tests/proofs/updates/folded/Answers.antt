use Rattle.std.proofs.Common.{◌≡◌, ◌≤◌, sym, subst, ◌∙◌, arith}
use Rattle.mz_bag.specs.Bag.{Fits}
use Rattle.mz_bag.specs.Mass.{IsLight}
use Rattle.mz_bag.proofs.MassLaws.{light_fits}
use Rattle.mz_updates.specs.Contents.{contents, compacted, HasSums}
use Rattle.mz_updates.proofs.ContentsLaws.{weights-compacted}
use Rattle.mz_updates.proofs.LightLists.{light_contents, light_sums}
use Rattle.mz_ground_tests.proofs.updates.folded.Goals as goal

-- the same rows and diffs are as light
pub consolidate-requires : goal.consolidate-requires
consolidate-requires g c =
    subst HasSums (sym c.compact.ensures.moved)
    (light_sums (compacted c.time.result c.in_ok-updates.updates) (subst IsLight (sym (weights-compacted c.time.result c.in_ok-updates.updates)) c.in_ok-updates.ensures))

-- and contain the same from 4 on
pub returns : goal.returns
returns g c = record {
  fits = λ t row from.
      let since : c.time.result ≤ t = subst (λ n. n ≤ t) (sym c.time.ensures) from in
      subst Fits (sym (c.consolidate.ensures.contents.counts t row ∙ c.compact.ensures.contents.counts t row since))
      (light_fits (contents t c.in_ok-updates.updates) row ((light_contents 0 c.in_ok-updates.updates c.in_ok-updates.ensures).light t (omega arith)));
}
