use Rattle.std.proofs.Common.{refl, subst, sym, map}
use Rattle.mz_rules.specs.Moves.{let_go as let_go_of}
use Rattle.mz_rules.specs.Capabilities.{of_hold}
use Rattle.mz_collections.specs.Kept.{AreAtRest}
use Rattle.mz_collections.proofs.Changing.{Keeps, at_rest_changed}
use Rattle.mz_collections.proofs.Standing.{kept_changed, marked_none}
use Rattle.mz_collections.proofs.collections.Collections.let_go.Goals as goal

-- what is kept for nobody stays so
pub invariant_of-self : goal.invariant_of-self
invariant_of-self c =
    let s = c.self.inside in
    let inv = c.self.invariant in
    let keeps : Keeps let_go_of = record { number = λ d. refl; inputs = λ d. refl; implied = λ d e. refl } in (
      kept_changed let_go_of keeps c.args.number s.all.items c.let_go_at.new.all.items s.told.items s.over.items s.live.items inv.0 c.let_go_at.ensures,
      marked_none c.let_go_at.new.all.items s.live.items,
      subst (AreAtRest (map of_hold s.holds.present.live) (map of_hold s.peeks.present.live)) (sym c.let_go_at.ensures)
          (at_rest_changed (map of_hold s.holds.present.live) (map of_hold s.peeks.present.live) let_go_of keeps c.args.number s.all.items inv.2),
      tt,
    )
