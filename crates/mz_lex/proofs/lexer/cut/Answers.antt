use Rattle.std.proofs.Common.{sym, subst, ◌∙◌, refl, arith, length, eqb-true, false-eqb}
use Rattle.mz_lex.proofs.CutLemmas.{SoFar, so_far_first, so_far_next, so_far_done, so_far_stuck}
use Rattle.mz_lex.proofs.lexer.cut.Goals as goal

-- no token yet, and the blanks before the first
pub tokens-init : goal.tokens-init
tokens-init c =
    subst (λ list. SoFar c.args.text.now list c.after_blanks-rest.result.now) (sym c.new-list.ensures.items)
    (so_far_first c.args.text.now c.after_blanks-rest.result.now c.after_blanks-rest.ensures.gap c.after_blanks-rest.ensures.no_blank)

-- no token begins here, and all before it were read
pub returns-in_default-clause-fault : goal.returns-in_default-clause-fault
returns-in_default-clause-fault c =
    let some = false-eqb (length c.tokens.rest.now) 0 (sym c.tokens-test.true ∙ c.is_empty.ensures) in
    so_far_stuck c.args.text.now c.tokens.list.items c.tokens.rest.now c.tokens.invariant (omega arith) c.in_default.ensures

-- the token that was found comes to the list
pub tokens-preserved : goal.tokens-preserved
tokens-preserved c =
    let blanks = c.after_blanks-rest-in-tokens in
    subst (λ list. SoFar c.args.text.now list blanks.result.now) (sym c.in_ok-push.ensures.items)
    (so_far_next c.args.text.now c.tokens.list.items c.tokens.rest.now _ c.in-Some.len c.split_at.result.1.now blanks.result.now c.tokens.invariant c.in-Some.ensures refl refl c.split_at.ensures.back blanks.ensures.gap blanks.ensures.no_blank)

-- nothing is left
pub returns-clause-ok : goal.returns-clause-ok
returns-clause-ok c = so_far_done c.args.text.now c.tokens.list.items c.tokens.rest.now c.tokens.invariant (eqb-true (length c.tokens.rest.now) 0 (sym c.is_empty.ensures ∙ c.tokens-test.false))
