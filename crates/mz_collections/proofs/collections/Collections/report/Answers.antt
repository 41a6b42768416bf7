use Rattle.std.proofs.Common.{max, refl, ap, subst, sym, map}
use Rattle.mz_collections.specs.CollectionBook.{come_past}
use Rattle.mz_rules.specs.Capabilities.{of_hold}
use Rattle.mz_rules.specs.Policy.{raised}
use Rattle.mz_collections.specs.Kept.{AreAtRest}
use Rattle.mz_collections.proofs.Changing.{Keeps, at_rest_changed}
use Rattle.mz_collections.proofs.Standing.{kept_changed, marked_none}
use Rattle.mz_collections.proofs.collections.Collections.report.Goals as goal

-- what is kept for nobody stays so
pub invariant_of-self : goal.invariant_of-self
invariant_of-self c =
    let s = c.self.inside in
    let inv = c.self.invariant in
    let keeps : Keeps (come_past c.args.upper) = record { number = λ d. refl; inputs = λ d. refl; implied = λ d e. ap (raised d.keep (max d.upper c.args.upper)) e } in (
      kept_changed (come_past c.args.upper) keeps c.args.number s.all.items c.report_at.new.all.items s.told.items s.over.items s.live.items inv.0 c.report_at.ensures,
      marked_none c.report_at.new.all.items s.live.items,
      subst (AreAtRest (map of_hold s.holds.present.live) (map of_hold s.peeks.present.live)) (sym c.report_at.ensures)
          (at_rest_changed (map of_hold s.holds.present.live) (map of_hold s.peeks.present.live) (come_past c.args.upper) keeps c.args.number s.all.items inv.2),
      tt,
    )
