-- The first word ends before a space, or there is none.
use Rattle.mz_script.proofs.WordLemmas.{no_word, one_word}
use Rattle.mz_script.proofs.words.next_word.Goals as goal

pub returns-then-is_empty : goal.returns-then-is_empty
returns-then-is_empty c = no_word c.args.text.now c.after_spaces-text.result.now c.is_empty.result c.after_spaces-text.ensures c.is_empty.ensures c.if-is_empty.true

pub returns : goal.returns
returns c =
    one_word c.args.text.now c.after_spaces-text.result.now c.is_empty.result c.word_len-end.result
    c.after_spaces-text.ensures c.is_empty.ensures c.if-is_empty.false c.word_len-end.ensures.value
