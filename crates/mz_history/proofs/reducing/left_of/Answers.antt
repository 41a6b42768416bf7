use Rattle.std.proofs.Common.{◌∙◌}
use Rattle.mz_history.proofs.Lefts.{put_reduced}
use Rattle.mz_history.proofs.reducing.left_of.Goals as goal

-- what is put down is what is left
pub returns : goal.returns
returns c =
    c.from_vec.ensures
    ∙ put_reduced c.args.named.now c.args.ended.now c.args.lines.now c.new-left.result.items c.put_creations.new.left.items c.put_peeks.new.left.items
    c.requires.named c.requires.ended c.new-left.ensures.items c.in_ok-put_creations.ensures c.in_ok-put_peeks.ensures
