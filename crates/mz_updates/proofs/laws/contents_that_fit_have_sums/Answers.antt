use Rattle.mz_updates.proofs.RowBags.{sums_from}
use Rattle.mz_updates.proofs.laws.contents_that_fit_have_sums.Goals as goal

-- each change is the difference of two contents
pub returns : goal.returns
returns c = sums_from
