use Rattle.std.proofs.Common.{◌≡◌, ◌≤◌, ℕ, subst}
use Rattle.mz_bag.specs.Bag.{IsStored}
use Rattle.mz_arrange.specs.Arranged.{Arranged, rows_at}
use Rattle.mz_arrange.specs.Kept.{arranged, behind}
use Rattle.mz_arrange.proofs.ArrangedLaws.{rows_stored}
use Rattle.mz_arrange.proofs.arrangement.Arrangement.since.Goals as goal

-- what is kept fits
pub returns-clause-stored : goal.returns-clause-stored
returns-clause-stored c =
    let s = c.self.inside in
    let is : arranged (behind s.rows.entries s.later) s.since s.upper ≡ c.args.self.now = c.self.view_is in
    subst (λ (a : Arranged). (t : ℕ) → a.since ≤ t → IsStored (rows_at a t)) is (rows_stored (behind s.rows.entries s.later) s.since s.upper c.self.invariant.fits)
