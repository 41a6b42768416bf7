use Rattle.mz_state_laws.proofs.StaysGone.{bag_gone, number_gone}
use Rattle.mz_state_laws.proofs.growth.what_is_gone_stays_so.Goals as goal

pub returns : goal.returns
returns c = record { number = number_gone; bag = bag_gone }
