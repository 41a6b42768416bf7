use Rattle.std.proofs.Common.{◌≡◌, sym, subst, rules}
use Rattle.std.specs.Prelude.{IsTrue}
use Rattle.std.proofs.lemmas.Result.{IfOk-weaker}
use Rattle.mz_lex.specs.Lowered.{lowered, is_small}
use Rattle.mz_lex.specs.Spelling.{IsWord}
use Rattle.mz_lex.proofs.LoweredLemmas.{is_small-lowered, word-lowered}
use Rattle.mz_lex.proofs.value.lowered.Goals as goal

-- no lowered byte is a capital
pub returns-clause-small : goal.returns-clause-small
returns-clause-small c =
    IfOk-weaker c.collect.result (λ name. name.items ≡ lowered c.args.word.now) (λ name. IsTrue (is_small name.items))
    (λ name is. subst (λ bs. IsTrue (is_small bs)) (sym is) (is_small-lowered c.args.word.now))
    (search rules)

-- a lowered word is a word
pub returns-clause-word : goal.returns-clause-word
returns-clause-word c word =
    IfOk-weaker c.collect.result (λ name. name.items ≡ lowered c.args.word.now) (λ name. IsWord name.items)
    (λ name is. subst IsWord (sym is) (word-lowered c.args.word.now word))
    (search rules)
