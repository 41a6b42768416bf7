-- One word is compared with `script`.
use Rattle.std.proofs.Common.{sym, ◌∙◌}
use Rattle.mz_shell.proofs.AnswerLemmas.{one_word}
use Rattle.mz_shell.proofs.words.Words.ask_for_script.Goals as goal

pub returns-in-len1 : goal.returns-in-len1
returns-in-len1 c = one_word _ c.as_slice.result.now c.word-item.result c.as_str.result.now _ (sym (λ i. c.self.view_is i) ∙ sym c.as_slice.ensures.value) c.in-len1.len_at_least c.in-len1.len_below c.word-item.is c.as_str.ensures c.eq.ensures
