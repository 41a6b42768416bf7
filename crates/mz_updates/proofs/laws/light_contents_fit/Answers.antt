use Rattle.mz_bag.proofs.MassLaws.{light_fits}
use Rattle.mz_updates.specs.Contents.{contents}
use Rattle.mz_updates.proofs.laws.light_contents_fit.Goals as goal

-- each count is no greater than the mass
pub returns : goal.returns
returns c since us h = record { fits = λ t row k. light_fits (contents t us) row (h.light t k) }
