use Rattle.std.proofs.Common.{◌≡◌, ap, sym, subst, ◌∙◌, rules, IsUtf8}
use Rattle.mz_lex.specs.Quoted.{quoted, unquoted}
use Rattle.mz_lex.proofs.QuotedLemmas.{quoted-unquoted}
use Rattle.mz_lex.proofs.Utf8Lemmas.{quoted_utf8}
use Rattle.mz_lex.proofs.value.unquoted.Goals as goal

-- all bytes were looked at, and what is quoted is what was unquoted
pub returns-clause-text : goal.returns-clause-text
returns-clause-text c =
    let whole : c.bytes.text.items ≡ unquoted c.args.bytes.now = search rules in
    sym (quoted-unquoted c.args.bytes.now c.requires) ∙ ap quoted (sym whole)

-- the quotes that are left out are ASCII
pub returns-clause-utf8 : goal.returns-clause-utf8
returns-clause-utf8 c utf8 = quoted_utf8 c.bytes.text.items (subst IsUtf8 (returns-clause-text c) utf8)
