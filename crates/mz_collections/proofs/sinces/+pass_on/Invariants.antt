use Rattle.std.proofs.Common.{length}
use Rattle.mz_collections.proofs.sinces.+pass_on.Given as goal

abbrev pub decreases-pass_on : goal.decreases-pass_on
decreases-pass_on l = length l.inputs.now
