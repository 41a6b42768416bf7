use Rattle.mz_grammar.proofs.Fits.{text_fits}
use Rattle.mz_grammar.proofs.laws.spelled_is_statement.Goals as goal

-- rule by rule, since the tokens of a text that is cut have names, and texts of one line
pub returns : goal.returns
returns c = text_fits
