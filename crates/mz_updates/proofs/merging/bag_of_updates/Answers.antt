use Rattle.std.proofs.Common.{◌≡◌, ◌+◌, IfOk, sym, subst, arith}
use Rattle.mz_bag.specs.Bag.{Counts, Fits}
use Rattle.mz_bag.proofs.BagLaws.{bag_of-same}
use Rattle.mz_updates.specs.Contents.{weights, HasSums, IsBefore, IsFrom, SameContents}
use Rattle.mz_updates.proofs.ContentsLaws.{IsFrom-compacted, IsBefore-compacted}
use Rattle.mz_updates.proofs.RowBags.{sums_compacted, consolidated_once, count_merged}
use Rattle.mz_updates.proofs.merging.bag_of_updates.Goals as goal

-- all that is there is at one time, so its sums are the counts
pub merge-requires : goal.merge-requires
merge-requires c = subst HasSums (sym c.move_up.ensures) (sums_compacted c.args.t c.args.updates.items c.requires.before c.requires.fits)

-- and what is merged has each row once
pub bag_of_rows-requires-clause-once : goal.bag_of_rows-requires-clause-once
bag_of_rows-requires-clause-once c =
    consolidated_once c.args.t c.merge.new.updates.items
    (c.merge.ensures.from c.args.t (subst (IsFrom c.args.t) (sym c.move_up.ensures) (IsFrom-compacted c.args.t c.args.updates.items)))
    (c.merge.ensures.before (c.args.t + 1) (subst (IsBefore (c.args.t + 1)) (sym c.move_up.ensures) (IsBefore-compacted c.args.t (c.args.t + 1) c.args.updates.items (omega arith) c.requires.before)))
    c.merge.ensures.once

-- with the count that it had
pub bag_of_rows-requires-clause-fits : goal.bag_of_rows-requires-clause-fits
bag_of_rows-requires-clause-fits c row =
    let after : IsBefore (c.args.t + 1) c.merge.new.updates.items =
    c.merge.ensures.before (c.args.t + 1) (subst (IsBefore (c.args.t + 1)) (sym c.move_up.ensures) (IsBefore-compacted c.args.t (c.args.t + 1) c.args.updates.items (omega arith) c.requires.before)) in
    subst Fits (sym (count_merged c.args.t c.args.updates.items c.merge.new.updates.items c.requires.before after (subst (SameContents c.merge.new.updates.items) c.move_up.ensures c.merge.ensures.contents) row)) (c.requires.fits row)

pub returns : goal.returns
returns c =
    let after : IsBefore (c.args.t + 1) c.merge.new.updates.items =
    c.merge.ensures.before (c.args.t + 1) (subst (IsBefore (c.args.t + 1)) (sym c.move_up.ensures) (IsBefore-compacted c.args.t (c.args.t + 1) c.args.updates.items (omega arith) c.requires.before)) in
    subst (λ (wanted : Counts). IfOk c.bag_of_rows.result (λ bag. bag ≡ wanted))
    (bag_of-same (weights c.merge.new.updates.items) (weights c.args.updates.items) (count_merged c.args.t c.args.updates.items c.merge.new.updates.items c.requires.before after (subst (SameContents c.merge.new.updates.items) c.move_up.ensures c.merge.ensures.contents)))
    c.bag_of_rows.ensures
