use Rattle.std.proofs.Common.{subst, sym, map}
use Rattle.mz_rules.specs.Capabilities.{of_hold}
use Rattle.mz_holds.specs.HoldBook.{HoldBook, at_time}
use Rattle.mz_collections.specs.Kept.{AreAtRest}
use Rattle.mz_collections.proofs.Resting.{at_rest_less, moved_held}
use Rattle.mz_collections.proofs.Standing.{marked_none}
use Rattle.mz_collections.proofs.collections.Collections.downgrade.Goals as goal

-- no collection gets a hold
pub invariant_of-self-2 : goal.invariant_of-self-2
invariant_of-self-2 c =
    let s = c.self.inside in
    let inv = c.self.invariant in (
      inv.0,
      marked_none s.all.items s.live.items,
      subst (λ (b : HoldBook). AreAtRest (map of_hold b.live) (map of_hold s.peeks.present.live) s.all.items) (sym c.in_ok-downgrade.ensures.ok)
          (at_rest_less (map of_hold s.holds.present.live) (map of_hold (map (at_time c.args.hold c.args.t) s.holds.present.live)) (map of_hold s.peeks.present.live) (map of_hold s.peeks.present.live)
          (λ n. moved_held c.args.hold c.args.t n s.holds.present.live) (λ n e. e) s.all.items inv.2),
      tt,
    )
