use Rattle.std.proofs.Common.{sym, subst, IsUtf8}
use Rattle.std.specs.List.{slice_range}
use Rattle.mz_lex.proofs.Utf8Lemmas.{span_utf8}
use Rattle.mz_lex.proofs.token.Token.bytes.Goals as goal

-- the span lies between ASCII bytes of the text
pub returns-clause-utf8 : goal.returns-clause-utf8
returns-clause-utf8 c =
    subst (λ text. IsUtf8 (slice_range text c.args.self.now.start c.args.self.now.end)) (sym c.as_bytes.ensures.value)
    (span_utf8 c.args.text.now c.args.self.now c.utf8.text c.requires)
