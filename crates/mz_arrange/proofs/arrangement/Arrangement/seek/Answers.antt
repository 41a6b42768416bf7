use Rattle.std.proofs.Common.{◌≡◌, ◌≤◌, ◌++◌, List, subst, sym, ap, ◌∙◌}
use Rattle.mz_bag.specs.Weighted.{bag_of}
use Rattle.mz_updates.specs.declared.update.Update.{Update}
use Rattle.mz_updates.specs.Contents.{contents, stamped, FitsAt}
use Rattle.mz_arrange.specs.Arranged.{Arranged, of_key, rows_at, rows_of_key}
use Rattle.mz_arrange.specs.Kept.{arranged, behind, found}
use Rattle.mz_arrange.proofs.KeyLaws.{fits_sought, bag_sought}
use Rattle.mz_arrange.proofs.arrangement.Arrangement.seek.Goals as goal

-- what is found is within the bound, where all is
pub contents-requires : goal.contents-requires
contents-requires c =
    let s = c.self.inside in
    let is : arranged (behind s.rows.entries s.later) s.since s.upper ≡ c.args.self.now = c.self.view_is in
    let from : s.since ≤ c.args.t = subst (λ (a : Arranged). a.since ≤ c.args.t) (sym is) c.requires.since in
    let more : c.in_ok-more.more ≡ found c.args.key.now s.later = c.in_ok-more.ensures ∙ ap (found c.args.key.now) c.as_slice.ensures in
    let all : c.push_all.new.updates ≡ stamped 0 (of_key c.args.key.now s.rows.entries) ++ found c.args.key.now s.later = c.in_ok-push_all.ensures.ok ∙ (λ i. c.in_ok-all.ensures i ++ more i) in
    subst (FitsAt c.args.t) (sym all)
    (fits_sought c.args.t c.args.key.now s.rows.entries s.later (record { fits = λ row. c.self.invariant.fits.fits c.args.t row from }))

-- and its bag is the part of the whole
pub returns : goal.returns
returns c =
    let s = c.self.inside in
    let is : arranged (behind s.rows.entries s.later) s.since s.upper ≡ c.args.self.now = c.self.view_is in
    let more : c.in_ok-more.more ≡ found c.args.key.now s.later = c.in_ok-more.ensures ∙ ap (found c.args.key.now) c.as_slice.ensures in
    let all : c.push_all.new.updates ≡ stamped 0 (of_key c.args.key.now s.rows.entries) ++ found c.args.key.now s.later = c.in_ok-push_all.ensures.ok ∙ (λ i. c.in_ok-all.ensures i ++ more i) in
    c.in_ok-rows.ensures
    ∙ ap (λ (us : List Update). bag_of (contents c.args.t us)) all
    ∙ bag_sought c.args.t c.args.key.now s.rows.entries s.later
    ∙ ap (λ (a : Arranged). rows_of_key c.args.key.now (rows_at a c.args.t)) is
