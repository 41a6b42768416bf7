use Rattle.std.proofs.Common.{subst, sym, arith}
use Rattle.std.specs.Char.{is_ascii_digit}
use Rattle.mz_lex.specs.declared.token.TokenKind.TheVariants.{Number}
use Rattle.mz_lex.specs.Spelling.{BeginsWith}
use Rattle.mz_lex.proofs.ReachLemmas.{number_found, starts_long}
use Rattle.mz_lex.proofs.scan.number_len.Goals as goal

-- a run of one digit or more is the number
pub returns-else-len-eq0 : goal.returns-else-len-eq0
returns-else-len-eq0 c =
    let run = c.digits_len-len.ensures in
    subst (BeginsWith Number c.args.bytes.now) (sym run)
    (number_found c.args.bytes.now (starts_long is_ascii_digit c.args.bytes.now (omega arith)))
