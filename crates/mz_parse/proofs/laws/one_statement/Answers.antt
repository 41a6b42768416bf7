use Rattle.std.proofs.Common.{sym, ◌∙◌}
use Rattle.mz_parse.proofs.Steps.{ok_is}
use Rattle.mz_parse.proofs.Complete.{whole_complete}
use Rattle.mz_parse.proofs.laws.one_statement.Goals as goal

-- both are what is read
pub returns : goal.returns
returns c ts one two first second = ok_is one two (sym (whole_complete ts one first) ∙ whole_complete ts two second)
