-- By induction on the collections that the stream makes.
use Rattle.mz_rules.proofs.Feeding.{fed_told}
use Rattle.mz_rules.proofs.stream_laws.fed_streams_tell_sinces.Goals as goal

pub returns : goal.returns
returns c = fed_told
