use Rattle.mz_reduce.proofs.GroupLaws.{groups_of_ints}
use Rattle.mz_reduce.proofs.laws.groups_of_ints.Goals as goal

pub returns : goal.returns
returns c = groups_of_ints
