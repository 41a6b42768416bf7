use Rattle.std.proofs.Common.{ap, ◌∙◌}
use Rattle.mz_updates.specs.Carrying.{with_change}
use Rattle.mz_updates.proofs.Merged.{merged_same, merged_consolidated, merged_from, merged_before}
use Rattle.mz_updates.proofs.merging.merge.Goals as goal

-- what changes at each time is the same
pub returns-clause-contents : goal.returns-clause-contents
returns-clause-contents c =
    merged_same c.args.updates.now.items c.sort.new.updates.items c.drop_zeros.new.updates.items c.requires c.sort.ensures.moved c.sort.ensures.sorted
    (c.drop_zeros.ensures.kept ∙ ap with_change c.carry_all.ensures) c.drop_zeros.ensures.fits

-- in strict order, without 0
pub returns-clause-once : goal.returns-clause-once
returns-clause-once c =
    merged_consolidated c.sort.new.updates.items c.drop_zeros.new.updates.items c.sort.ensures.sorted (c.drop_zeros.ensures.kept ∙ ap with_change c.carry_all.ensures)

-- no time comes in
pub returns-clause-from : goal.returns-clause-from
returns-clause-from c =
    merged_from c.args.updates.now.items c.sort.new.updates.items c.drop_zeros.new.updates.items c.sort.ensures.moved (c.drop_zeros.ensures.kept ∙ ap with_change c.carry_all.ensures)

pub returns-clause-before : goal.returns-clause-before
returns-clause-before c =
    merged_before c.args.updates.now.items c.sort.new.updates.items c.drop_zeros.new.updates.items c.sort.ensures.moved (c.drop_zeros.ensures.kept ∙ ap with_change c.carry_all.ensures)
