use Rattle.mz_bag.proofs.MassLaws.{light_fits}
use Rattle.mz_bag.proofs.laws.light_counts_fit.Goals as goal

-- each count is no greater than the mass
pub returns : goal.returns
returns c ws row light = light_fits ws row light
