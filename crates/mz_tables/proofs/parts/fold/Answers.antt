use Rattle.std.proofs.Common.{◌<◌, sym, subst, rules, arith}
use Rattle.mz_updates.specs.Contents.{HasSums, IsBefore, SameContents}
use Rattle.mz_updates.proofs.ContentsLaws.{IsBefore-compacted}
use Rattle.mz_tables.proofs.KeptLaws.{sums_compacted, kept_folded, same_folded}
use Rattle.mz_tables.proofs.parts.fold.Goals as goal

-- what is moved up has sums
pub consolidate-requires : goal.consolidate-requires
consolidate-requires c = subst HasSums (sym c.compact.ensures.moved) (sums_compacted c.args.since c.args.updates.now c.requires.fits)

-- and stays below the upper
pub returns-then-len-folded-clause-kept : goal.returns-then-len-folded-clause-kept
returns-then-len-folded-clause-kept c =
    let below : c.args.since < c.args.upper = search (rules, arith) in
    kept_folded c.args.updates.now c.consolidate.new.self c.args.since c.args.upper c.requires.fits
    (subst (SameContents c.consolidate.new.self) c.compact.ensures.moved c.consolidate.ensures.contents) c.consolidate.ensures.once
    (c.consolidate.ensures.before c.args.upper (subst (IsBefore c.args.upper) (sym c.compact.ensures.moved) (IsBefore-compacted c.args.since c.args.upper c.args.updates.now below c.requires.before)))

-- containing the same
pub returns-then-len-folded-clause-same : goal.returns-then-len-folded-clause-same
returns-then-len-folded-clause-same c =
    same_folded c.args.updates.now c.consolidate.new.self c.args.since (subst (SameContents c.consolidate.new.self) c.compact.ensures.moved c.consolidate.ensures.contents)
