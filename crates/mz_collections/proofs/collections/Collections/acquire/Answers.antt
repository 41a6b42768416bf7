use Rattle.std.proofs.Common.{◌+◌, None, ap, subst, sym, map, take}
use Rattle.mz_time.specs.declared.frontier.Frontier.TheVariants.{At}
use Rattle.mz_time.specs.Frontier.{Le}
use Rattle.mz_rules.specs.Capabilities.{of_hold}
use Rattle.mz_rules.specs.Since.{since_of}
use Rattle.mz_holds.specs.HoldBook.{HoldBook}
use Rattle.mz_collections.specs.Kept.{AreAtRest}
use Rattle.mz_collections.proofs.Resting.{rest_held}
use Rattle.mz_collections.proofs.collections.Collections.acquire.Goals as goal

-- what is readable isn't done
pub invariant_of-self-2 : goal.invariant_of-self-2
invariant_of-self-2 c =
    let s = c.self.inside in
    let inv = c.self.invariant in (
      inv.0,
      inv.1,
      rest_held s.holds.present.live c.acquire.new.self.present.live (map of_hold s.peeks.present.live)
          (record { number = s.holds.present.taken + 1; collection = c.args.number; time = c.args.t; owner = None }) c.args.t s.all.items inv.0.numbered
          (subst (λ v. Le (since_of c.args.number v.present.all) (At c.args.t)) (sym c.self.view_is) c.requires) (ap (λ b. b.live) c.in_ok-hold.ensures.ok) inv.2,
      subst (λ (b : HoldBook). AreAtRest (map of_hold b.live) (map of_hold s.peeks.marked.live) (take s.mark s.all.items)) (sym c.in_ok-hold.ensures.marked) inv.3,
    )
