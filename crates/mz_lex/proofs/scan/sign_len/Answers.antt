use Rattle.std.proofs.Common.{sym, ◌∙◌}
use Rattle.mz_lex.proofs.ReachLemmas.{double_at}
use Rattle.mz_lex.proofs.scan.sign_len.Goals as goal

-- the first two bytes are the sign
pub returns-in-len2-up : goal.returns-in-len2-up
returns-in-len2-up c = double_at c.args.bytes.now c.in-len2-up.len_at_least (sym c.is_double.ensures ∙ c.if-is_double.true)
