use Rattle.std.proofs.Common.{sym, ◌∙◌}
use Rattle.mz_lex.specs.declared.token.TokenKind.TheVariants.{Word, Number, Quoted, Sign}
use Rattle.mz_lex.proofs.ReachLemmas.{quoted_found, quoted_none}
use Rattle.mz_lex.proofs.scan.token_at.Goals as goal

-- a quoted text was found
pub returns-in-Some-quoted_len : goal.returns-in-Some-quoted_len
returns-in-Some-quoted_len c = quoted_found c.args.bytes.now c.in-Some-quoted_len.len (sym c.quoted_len.ensures ∙ c.in-Some-quoted_len.is)

-- no kind of token was found
pub returns-in_default-sign_len : goal.returns-in_default-sign_len
returns-in_default-sign_len c Word = c.in_default.ensures
returns-in_default-sign_len c Number = c.in_default-number_len.ensures
returns-in_default-sign_len c Quoted = quoted_none c.args.bytes.now (sym c.quoted_len.ensures ∙ c.in_default-quoted_len.is)
returns-in_default-sign_len c Sign = c.in_default-sign_len.ensures
