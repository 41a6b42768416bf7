use Rattle.mz_lex.proofs.QuotedLemmas.{unquoted-quoted}
use Rattle.mz_lex.proofs.laws.unquoting.Goals as goal

-- byte by byte
pub returns : goal.returns
returns c = unquoted-quoted
