use Rattle.mz_updates.proofs.ContentsLaws.{contents-compacted}
use Rattle.mz_updates.proofs.laws.compaction.Goals as goal

pub returns : goal.returns
returns c = contents-compacted
