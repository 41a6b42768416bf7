use Rattle.mz_state_laws.proofs.StatementsKeep.{asked_well, seq_keeps, seq_well}
use Rattle.mz_state_laws.proofs.well.carrying_out_keeps_it.Goals as goal

pub returns : goal.returns
returns c = record { statement = seq_well; asked = asked_well; types = seq_keeps }
