use Rattle.std.proofs.Common.{◌≡◌, ◌+◌, ap, sym, subst, ◌∙◌}
use Rattle.mz_updates.specs.Contents.{between, compacted, HasSums, IsBefore, SameContents}
use Rattle.mz_tables.proofs.PartLaws.{sums_whole, before_whole, whole_part}
use Rattle.mz_tables.proofs.parts.whole_part.Goals as goal

-- what is copied and moved up is all up to the time
pub consolidate-requires : goal.consolidate-requires
consolidate-requires c =
    let is : c.compact.new.self ≡ compacted c.args.since (between 0 (c.args.to + 1) c.args.updates.now) =
    c.compact.ensures.moved ∙ ap (compacted c.args.since) (c.in_ok-part.ensures ∙ (λ i. between 0 (c.number.ensures.value i + 1) c.args.updates.now)) in
    subst HasSums (sym is) (sums_whole c.args.since c.args.to c.args.updates.now c.requires.fits c.requires.reaches)

pub returns-clause-part : goal.returns-clause-part
returns-clause-part c =
    let is : c.compact.new.self ≡ compacted c.args.since (between 0 (c.args.to + 1) c.args.updates.now) =
    c.compact.ensures.moved ∙ ap (compacted c.args.since) (c.in_ok-part.ensures ∙ (λ i. between 0 (c.number.ensures.value i + 1) c.args.updates.now)) in
    whole_part c.args.since c.args.to c.args.updates.now c.consolidate.new.self
    (subst (SameContents c.consolidate.new.self) is c.consolidate.ensures.contents)
    (c.consolidate.ensures.from c.args.since c.compact.ensures.from)
    (c.consolidate.ensures.before (c.args.to + 1) (subst (IsBefore (c.args.to + 1)) (sym is) (before_whole c.args.since c.args.to c.args.updates.now c.requires.reaches)))
