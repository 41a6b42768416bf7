use Rattle.std.proofs.Common.{◌==◌, filter, not, subst, sym, map}
use Rattle.mz_rules.specs.Capabilities.{of_hold}
use Rattle.mz_holds.specs.HoldBook.{HoldBook}
use Rattle.mz_collections.specs.Kept.{AreAtRest}
use Rattle.mz_collections.proofs.Resting.{at_rest_less, fewer_held}
use Rattle.mz_collections.proofs.Standing.{marked_none}
use Rattle.mz_collections.proofs.collections.Collections.release.Goals as goal

-- no collection gets a hold
pub invariant_of-self : goal.invariant_of-self
invariant_of-self c =
    let s = c.self.inside in
    let inv = c.self.invariant in (
      inv.0,
      marked_none s.all.items s.live.items,
      subst (λ (b : HoldBook). AreAtRest (map of_hold b.live) (map of_hold s.peeks.present.live) s.all.items) (sym c.release.ensures)
          (at_rest_less (map of_hold s.holds.present.live) (map of_hold (filter (λ hold. not (hold.number == c.args.hold)) s.holds.present.live)) (map of_hold s.peeks.present.live) (map of_hold s.peeks.present.live)
          (λ n. fewer_held c.args.hold n s.holds.present.live) (λ n e. e) s.all.items inv.2),
      tt,
    )
