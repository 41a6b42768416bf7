use Rattle.std.proofs.Common.{◌≡◌, ◌≤◌, List, subst, sym}
use Rattle.mz_updates.specs.declared.update.Update.{Update}
use Rattle.mz_arrange.specs.Arranged.{Arranged, IsInserted, IsSameFrom, TakesUpdates}
use Rattle.mz_arrange.specs.Kept.{arranged, behind, IsKept}
use Rattle.mz_arrange.proofs.ArrangedLaws.{after_error, rows_same, kept_inserted, inserted}
use Rattle.mz_arrange.proofs.arrangement.Arrangement.insert.Goals as goal

-- where a fold wants memory, each row is there as often as before
pub returns-in_err-left-clause-err : goal.returns-in_err-left-clause-err
returns-in_err-left-clause-err c =
    let s = c.self.inside in
    let is : arranged (behind s.rows.entries s.later) s.since s.upper ≡ c.args.self.now = c.self.view_is in
    after_error c.from_residual.result
    (subst (λ (a : Arranged). IsSameFrom a.since a (arranged (behind c.fold.new.rows.entries c.fold.new.later) s.since s.upper)) is
    (rows_same s.since s.upper (behind s.rows.entries s.later) (behind c.fold.new.rows.entries c.fold.new.later) c.in_err-left.ensures.same))

-- what went among the rows before is there as it was
pub returns-in_err-push_all-clause-err : goal.returns-in_err-push_all-clause-err
returns-in_err-push_all-clause-err c =
    let s = c.self.inside in
    let is : arranged (behind s.rows.entries s.later) s.since s.upper ≡ c.args.self.now = c.self.view_is in
    after_error c.from_residual-in_err-push_all.result
    (subst (λ (a : Arranged). IsSameFrom a.since a (arranged (behind c.fold.new.rows.entries c.push_all.new.updates) s.since s.upper)) is
    (subst (λ (us : List Update). IsSameFrom s.since (arranged (behind s.rows.entries s.later) s.since s.upper) (arranged (behind c.fold.new.rows.entries us) s.since s.upper))
    (sym c.in_err-push_all.ensures.err)
    (rows_same s.since s.upper (behind s.rows.entries s.later) (behind c.fold.new.rows.entries c.fold.new.later) c.in_ok-left.ensures.same)))

-- the updates stand behind what there was, within the bound
pub invariant_of-self-2 : goal.invariant_of-self-2
invariant_of-self-2 c =
    let s = c.self.inside in
    let is : arranged (behind s.rows.entries s.later) s.since s.upper ≡ c.args.self.now = c.self.view_is in
    subst (λ (us : List Update). IsKept c.fold.new.rows.entries us s.since c.args.upper) (sym c.in_ok-push_all.ensures.ok)
    (kept_inserted c.fold.new.rows.entries c.fold.new.later (behind s.rows.entries s.later) c.args.updates s.since s.upper c.args.upper c.in_ok-left.ensures.same c.in_ok-left.ensures.before
    c.requires.before (subst (λ (a : Arranged). a.upper ≤ c.args.upper) (sym is) c.requires.later) (subst (TakesUpdates c.args.updates) (sym is) c.requires.fits))

-- and each row is there as often as in both
pub returns-clause-ok : goal.returns-clause-ok
returns-clause-ok c =
    let s = c.self.inside in
    let is : arranged (behind s.rows.entries s.later) s.since s.upper ≡ c.args.self.now = c.self.view_is in
    subst (λ (a : Arranged). IsInserted c.args.updates c.args.upper a (arranged (behind c.fold.new.rows.entries c.push_all.new.updates) s.since c.args.upper)) is
    (subst (λ (us : List Update). IsInserted c.args.updates c.args.upper (arranged (behind s.rows.entries s.later) s.since s.upper) (arranged (behind c.fold.new.rows.entries us) s.since c.args.upper))
    (sym c.in_ok-push_all.ensures.ok)
    (inserted c.fold.new.rows.entries c.fold.new.later (behind s.rows.entries s.later) c.args.updates s.since s.upper c.args.upper c.in_ok-left.ensures.same))
