use Rattle.std.proofs.Common.{List, subst, sym, map}
use Rattle.mz_rules.specs.declared.capability.Settled.{Settled}
use Rattle.mz_rules.specs.Capabilities.{of_hold}
use Rattle.mz_holds.specs.HoldBook.{HoldBook}
use Rattle.mz_collections.specs.Kept.{AreAtRest}
use Rattle.mz_collections.proofs.Standing.{kept_back, marked_none}
use Rattle.mz_collections.proofs.collections.Collections.back.Goals as goal

-- what was done at the mark rested then
pub invariant_of-self : goal.invariant_of-self
invariant_of-self c =
    let s = c.self.inside in
    let inv = c.self.invariant in (
      kept_back s.mark s.live_mark s.all.items c.truncate.new.self.items s.told.items c.truncate-2.new.self.items s.over.items c.truncate-3.new.self.items s.live.items c.truncate-4.new.self.items
          inv.0 inv.1 c.truncate.ensures.items c.truncate-2.ensures.items c.truncate-3.ensures.items c.truncate-4.ensures.items,
      marked_none c.truncate.new.self.items c.truncate-4.new.self.items,
      subst (λ (p : HoldBook × HoldBook × List Settled). AreAtRest (map of_hold p.0.live) (map of_hold p.1.live) p.2)
          (λ i. (sym c.back.ensures i, sym c.back-2.ensures i, sym c.truncate.ensures.items i)) inv.3,
      tt,
    )
