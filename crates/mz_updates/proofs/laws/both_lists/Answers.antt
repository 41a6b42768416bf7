use Rattle.mz_updates.proofs.ContentsLaws.{contents-append}
use Rattle.mz_updates.proofs.laws.both_lists.Goals as goal

pub returns : goal.returns
returns c = contents-append
