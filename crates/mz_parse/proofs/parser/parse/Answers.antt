use Rattle.std.proofs.Common.{Ok, Err, sym, ap, subst, ◌∙◌}
use Rattle.mz_lex.specs.Cut.{IsCutInto}
use Rattle.mz_lex.specs.Fault.{IsFault, IsFirstFault}
use Rattle.mz_lex.proofs.CutLemmas.{one_fault, not_both}
use Rattle.mz_grammar.specs.Token.{toks_of}
use Rattle.mz_parse.specs.Reading.{Fails, whole_at}
use Rattle.mz_grammar.specs.Faults.{IsParseFault}
use Rattle.mz_parse.proofs.FaultLemmas.{fault_told}
use Rattle.mz_parse.proofs.Parsing.{read_spelled, spelled_read, same_statement, only_memory}
use Rattle.mz_parse.proofs.parser.parse.Goals as goal

-- what was read is spelled by the text
pub returns-in-Ok-whole-clause-ok : goal.returns-in-Ok-whole-clause-ok
returns-in-Ok-whole-clause-ok c =
    let cut = subst (λ t. IsCutInto t c.in-Ok.tokens) c.as_str-text.ensures c.in-Ok.ensures.ok in
    let stand = c.in_ok-list.ensures ∙ (λ i. toks_of (c.as_str-text.ensures i) (c.as_slice.ensures.same i)) in
    let read = ap whole_at (sym c.as_slice-2.ensures.value) ∙ c.in-Ok-whole.ensures in
    read_spelled c.args.text.now c.in-Ok.tokens c.in_ok-list.list.items c.in-Ok-whole.statement cut stand read

-- and nothing else is
pub returns-in-Ok-whole-clause-only : goal.returns-in-Ok-whole-clause-only
returns-in-Ok-whole-clause-only c s spelled some =
    let cut = subst (λ t. IsCutInto t c.in-Ok.tokens) c.as_str-text.ensures c.in-Ok.ensures.ok in
    let stand = c.in_ok-list.ensures ∙ (λ i. toks_of (c.as_str-text.ensures i) (c.as_slice.ensures.same i)) in
    let read = ap whole_at (sym c.as_slice-2.ensures.value) ∙ c.in-Ok-whole.ensures in
    let other = spelled_read c.args.text.now c.in-Ok.tokens c.in_ok-list.list.items s cut stand spelled in
    ap Ok (same_statement c.in-Ok-whole.statement s (sym read ∙ other))

-- a text that spells a statement is refused for want of memory alone
pub returns-clause-only : goal.returns-clause-only
returns-clause-only c s spelled some =
    let cut = subst (λ t. IsCutInto t c.in-Ok.tokens) c.as_str-text.ensures c.in-Ok.ensures.ok in
    let stand = c.in_ok-list.ensures ∙ (λ i. toks_of (c.as_str-text.ensures i) (c.as_slice.ensures.same i)) in
    let other = ap whole_at c.as_slice-2.ensures.value ∙ spelled_read c.args.text.now c.in-Ok.tokens c.in_ok-list.list.items s cut stand spelled in
    absurd (some (ap Err (c.at_place.ensures.memory (only_memory c.in-Err.error (whole_at c.as_slice-2.result.now) s c.in-Err.ensures other))))

-- the lexer's fault is the text's
pub returns-in-Err-Bad-clause-lexical : goal.returns-in-Err-Bad-clause-lexical
returns-in-Err-Bad-clause-lexical c at first some =
    let found = subst (IsFault c.as_str-text.result.now) c.in-Err-Bad.field-0-is c.in-Err-Bad.ensures.fault in
    let fault = subst (λ t. IsFirstFault t c.in-Err-Bad.at) c.as_str-text.ensures found in
    let same = one_fault c.args.text.now c.in-Err-Bad.at at fault first in
    let place = c.in-Err-Bad.at-is in
    cc

-- a text that is cut has none
pub returns-in-Ok-whole-clause-lexical : goal.returns-in-Ok-whole-clause-lexical
returns-in-Ok-whole-clause-lexical c at first some =
    absurd (not_both c.args.text.now c.in-Ok.tokens at (subst (λ t. IsCutInto t c.in-Ok.tokens) c.as_str-text.ensures c.in-Ok.ensures.ok) first)

-- nor has it where no statement is read
pub returns-clause-lexical : goal.returns-clause-lexical
returns-clause-lexical c at first some =
    absurd (not_both c.args.text.now c.in-Ok.tokens at (subst (λ t. IsCutInto t c.in-Ok.tokens) c.as_str-text.ensures c.in-Ok.ensures.ok) first)

-- the fault of the reading is the text's
pub returns-clause-fault : goal.returns-clause-fault
returns-clause-fault c =
    let text = c.as_str-text.result.now in
    let tokens = c.as_slice-in-Err.ensures.same in
    let list = c.as_slice-in-Err-2.ensures.value in
    let cut = subst (IsCutInto text) (sym tokens) c.in-Ok.ensures.ok in
    let stand = list ∙ c.in_ok-list.ensures ∙ ap (toks_of text) (c.as_slice.ensures.same ∙ sym tokens) in
    let read = subst (λ l. Fails c.in-Err.error (whole_at l)) (c.as_slice-2.ensures.value ∙ sym list) c.in-Err.ensures in
    let told = c.at_place.ensures in
    subst (λ t. IsParseFault t c.at_place.result) c.as_str-text.ensures
    (fault_told text c.as_slice-in-Err.result.now c.as_slice-in-Err-2.result.now c.in-Err.error c.at_place.result cut stand read told.memory told.syntax told.range)
