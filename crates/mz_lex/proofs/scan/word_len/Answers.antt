use Rattle.std.proofs.Common.{sym, ◌∙◌, ap, subst, arith}
use Rattle.std.specs.List.{prefix_len}
use Rattle.mz_lex.specs.Bytes.{is_word_start, is_word_byte}
use Rattle.mz_lex.specs.declared.token.TokenKind.TheVariants.{Word}
use Rattle.mz_lex.specs.Spelling.{BeginsWith}
use Rattle.mz_lex.proofs.ReachLemmas.{word_found, word_long, starts_first}
use Rattle.mz_lex.proofs.scan.word_len.Goals as goal

-- the run of word bytes, which is short enough, is the word
pub returns-then-len-le-LONGEST_WORD : goal.returns-then-len-le-LONGEST_WORD
returns-then-len-le-LONGEST_WORD c =
    let bytes = c.args.bytes.now in
    let run = c.word_bytes_len-len.ensures in
    let start = starts_first is_word_start bytes (omega arith) ∙ sym c.is_word_start.ensures ∙ c.if-is_word_start.true in
    subst (BeginsWith Word bytes) (sym run) (word_found bytes start (omega arith))

-- each word at the front would be the whole run, which is too long
pub returns-else-len-le-LONGEST_WORD : goal.returns-else-len-le-LONGEST_WORD
returns-else-len-le-LONGEST_WORD c front rest parts token =
    let long = word_long front rest token in
    let whole = ap (prefix_len is_word_byte) parts in
    let short = token.spelled.short in
    omega arith
