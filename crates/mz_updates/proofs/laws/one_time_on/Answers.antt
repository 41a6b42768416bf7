use Rattle.mz_updates.proofs.ContentsLaws.{count-next}
use Rattle.mz_updates.proofs.laws.one_time_on.Goals as goal

pub returns : goal.returns
returns c = count-next
