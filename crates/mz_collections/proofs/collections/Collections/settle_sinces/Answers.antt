use Rattle.std.proofs.Common.{◌++◌, subst, sym, map}
use Rattle.mz_rules.specs.Capabilities.{of_hold}
use Rattle.mz_collections.specs.CollectionBook.{collections_of}
use Rattle.mz_collections.specs.Kept.{AreAtRest}
use Rattle.mz_collections.proofs.Resting.{at_rest_settled}
use Rattle.mz_collections.proofs.Standing.{kept_settled, marked_none}
use Rattle.mz_collections.proofs.collections.Collections.settle_sinces.Goals as goal

-- what is done then rests
pub invariant_of-self : goal.invariant_of-self
invariant_of-self c =
    let s = c.self.inside in
    let inv = c.self.invariant in
    let hs = map of_hold s.holds.present.live in
    let ps = map of_hold s.peeks.present.live in
    let e = c.settle_live.ensures in (
      kept_settled (hs ++ ps) s.all.items c.settle_live.new.all.items s.told.items s.over.items c.settle_live.new.over.items s.live.items c.settle_live.new.live.items inv.0
          e.settled e.as_many e.listed e.idle,
      marked_none c.settle_live.new.all.items c.settle_live.new.live.items,
      subst (AreAtRest hs ps) (sym e.settled) (at_rest_settled hs ps (collections_of s.all.items)),
      tt,
    )
