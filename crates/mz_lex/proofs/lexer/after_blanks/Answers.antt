use Rattle.std.proofs.Common.{ap, ◌∙◌, drop}
use Rattle.mz_lex.specs.Bytes.{is_blank}
use Rattle.mz_lex.proofs.RunLemmas.{run_parts, run_stops}
use Rattle.mz_lex.proofs.lexer.after_blanks.Goals as goal

-- the run of blanks is the gap
pub returns-clause-gap : goal.returns-clause-gap
returns-clause-gap c = run_parts is_blank c.args.bytes.now _ (c.split_at.ensures.back ∙ ap (λ n. drop n c.args.bytes.now) c.blanks_len.ensures.blanks)

-- behind the run stands no blank
pub returns-clause-no_blank : goal.returns-clause-no_blank
returns-clause-no_blank c = run_stops is_blank c.args.bytes.now _ (c.split_at.ensures.back ∙ ap (λ n. drop n c.args.bytes.now) c.blanks_len.ensures.blanks)
