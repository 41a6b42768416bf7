use Rattle.std.proofs.Common.{◌≡◌, ◌==◌, true, IsSome, ap, subst, sym, ◌∙◌, map, filter, not}
use Rattle.mz_rules.specs.Capabilities.{of_hold}
use Rattle.mz_holds.specs.HoldBook.{HoldBook, hold_of}
use Rattle.mz_collections.specs.CollectionBook.{is_peeked, without_first, without_peek}
use Rattle.mz_collections.specs.Kept.{number_on, AreAtRest}
use Rattle.mz_collections.proofs.Peeked.{first_live, first_goes}
use Rattle.mz_collections.proofs.Resting.{at_rest_less, fewer_held}
use Rattle.mz_collections.proofs.Standing.{marked_none}
use Rattle.mz_collections.proofs.collections.Collections.end_peek.Goals as goal

-- the first peek there is live
pub release-requires : goal.release-requires
release-requires c =
    let live = c.self.inside.peeks.present.live in
    let is : is_peeked c.args.number c.args.t (map of_hold live) ≡ true = ap (λ v. is_peeked c.args.number c.args.t v.present.peeks) c.self.view_is ∙ c.requires in
    subst (λ n. IsSome (hold_of n live)) (sym (c.number_of-peek.ensures ∙ ap (number_on c.args.number c.args.t) c.live.ensures.live))
    (first_live c.args.number c.args.t live c.live.ensures.rising is)

-- no collection gets a peek
pub invariant_of-self : goal.invariant_of-self
invariant_of-self c =
    let s = c.self.inside in
    let inv = c.self.invariant in (
      inv.0,
      marked_none s.all.items s.live.items,
      subst (λ (b : HoldBook). AreAtRest (map of_hold s.holds.present.live) (map of_hold b.live) s.all.items) (sym c.release.ensures)
          (at_rest_less (map of_hold s.holds.present.live) (map of_hold s.holds.present.live) (map of_hold s.peeks.present.live)
          (map of_hold (filter (λ hold. not (hold.number == c.number_of-peek.result)) s.peeks.present.live))
          (λ n e. e) (λ n. fewer_held c.number_of-peek.result n s.peeks.present.live) s.all.items inv.2),
      tt,
    )

-- and goes
pub returns : goal.returns
returns c =
    let live = c.self.inside.peeks.present.live in
    let is : is_peeked c.args.number c.args.t (map of_hold live) ≡ true = ap (λ v. is_peeked c.args.number c.args.t v.present.peeks) c.self.view_is ∙ c.requires in
    let gone : map of_hold c.release.new.self.present.live ≡ without_first c.args.number c.args.t (map of_hold live)
    = ap (λ b. map of_hold b.live) c.release.ensures
    ∙ ap (λ n. map of_hold (filter (λ hold. not (hold.number == n)) live)) (c.number_of-peek.ensures ∙ ap (number_on c.args.number c.args.t) c.live.ensures.live)
    ∙ first_goes c.args.number c.args.t live c.live.ensures.rising is in
    (λ i. record { all = c.self.inside.all.items; told = c.self.inside.told.items; holds = c.self.inside.holds.present; peeks = gone i })
    ∙ ap (λ v. without_peek c.args.number c.args.t v.present) c.self.view_is
