use Rattle.mz_print.proofs.ReadAgain.{reads_again}
use Rattle.mz_sql.proofs.laws.printed_is_spelled.Goals as goal

-- by the tokens of what is printed
pub returns : goal.returns
returns c = reads_again
