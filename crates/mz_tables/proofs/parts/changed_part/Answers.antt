use Rattle.std.proofs.Common.{◌≡◌, ◌+◌, ◌<◌, sym, subst, ◌∙◌, arith}
use Rattle.mz_updates.specs.Contents.{between, HasSums, IsBefore, IsFrom, SameContents}
use Rattle.mz_tables.proofs.PartLaws.{between_rest, rest_whole, sums_between, changed_part, IsFrom-between, IsBefore-between}
use Rattle.mz_tables.proofs.parts.changed_part.Goals as goal

-- what is copied is all between the times
pub consolidate-requires : goal.consolidate-requires
consolidate-requires c =
    let is : c.in_ok-part.part ≡ between c.args.ready (c.args.to + 1) c.args.updates.now =
    c.in_ok-part.ensures
    ∙ (λ i. between c.args.ready (c.number.ensures.value i + 1) (rest_whole c.first_from-place.result c.args.updates.now c.first_from-place.ensures.place i))
    ∙ between_rest c.args.ready (c.args.to + 1) c.first_from-place.result c.args.updates.now c.first_from-place.ensures.before in
    subst HasSums (sym is) (sums_between c.args.since c.args.ready (c.args.to + 1) c.args.updates.now c.requires.fits c.requires.later)

pub returns-clause-part : goal.returns-clause-part
returns-clause-part c =
    let later : c.args.since < c.args.ready = c.requires.later in
    let is : c.in_ok-part.part ≡ between c.args.ready (c.args.to + 1) c.args.updates.now =
    c.in_ok-part.ensures
    ∙ (λ i. between c.args.ready (c.number.ensures.value i + 1) (rest_whole c.first_from-place.result c.args.updates.now c.first_from-place.ensures.place i))
    ∙ between_rest c.args.ready (c.args.to + 1) c.first_from-place.result c.args.updates.now c.first_from-place.ensures.before in
    changed_part c.args.ready c.args.to c.args.updates.now c.consolidate.new.self (omega (arith, later))
    (subst (SameContents c.consolidate.new.self) is c.consolidate.ensures.contents)
    (c.consolidate.ensures.from c.args.ready (subst (IsFrom c.args.ready) (sym is) (IsFrom-between c.args.ready (c.args.to + 1) c.args.updates.now)))
    (c.consolidate.ensures.before (c.args.to + 1) (subst (IsBefore (c.args.to + 1)) (sym is) (IsBefore-between c.args.ready (c.args.to + 1) c.args.updates.now)))
