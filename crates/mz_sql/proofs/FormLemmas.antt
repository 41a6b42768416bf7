-- From a statement that was read to the form of its text.
use Rattle.std.proofs.Common.{◌≡◌, ◌≢◌, ℕ, List, Result, Ok, Err, IfOk, IfErr, ap, ◌∙◌}
use Rattle.mz_statement.specs.declared.statement.Statement.{Statement}
use Rattle.mz_statement.specs.Statement.{IsStatement}
use Rattle.mz_grammar.specs.Grammar.{IsSpelling}
use Rattle.mz_grammar.specs.Faults.{IsParseFault}
use Rattle.mz_grammar.specs.declared.fault.ParseFault.{ParseFault}
use Rattle.mz_grammar.specs.declared.fault.ParseFault.TheVariants.{Memory}
use Rattle.mz_print.specs.Print.{print_of}
use Rattle.mz_sql.specs.Form.{HasForm}
use Rattle.mz_sql.proofs.FaultLemmas.{one_fault, no_fault}

-- what was made of a text
abbrev Made : Type 0
Made = Result (List ℕ) ParseFault

-- what is printed of the statement that the text spells is its form
pub has_form : (text : List ℕ) (statement : Statement) (made : Made) → IsSpelling text statement → IsStatement statement
    → IfOk made (λ form. form ≡ print_of statement)
    → IfOk made (λ form. IsStatement statement → IsSpelling form statement)
    → IfOk made (λ form. HasForm text form)
has_form text statement (Ok form) spelled can printed reads =
    record { statement = statement; spelled = spelled; printed = printed; again = reads can }
has_form text statement (Err fault) spelled can printed reads = tt

-- a statement or a fault
abbrev found : Statement → Result Statement ParseFault
found statement = Ok statement

-- no statement is want of memory
found_some : (statement : Statement) → found statement ≢ Err Memory
found_some statement e = cc

-- two statements that were found are one
found_is : (one two : Statement) → found one ≡ found two → one ≡ two
found_is one two e = cc

-- and the only one
pub only_form : (read other : Statement) (made : Made)
    → (found read ≢ Err Memory → found read ≡ Ok other)
    → IfOk made (λ form. form ≡ print_of read)
    → IfErr made (λ fault. fault ≡ Memory)
    → made ≢ Err Memory → made ≡ Ok (print_of other)
only_form read other (Ok form) only printed fault some = ap Ok (printed ∙ ap print_of (found_is read other (only (found_some read))))
only_form read other (Err e) only printed fault some = absurd (some (ap Err fault))

-- a fault in place of a statement
abbrev failed : ParseFault → Result Statement ParseFault
failed fault = Err fault

-- two such faults are one
failed_is : (one two : ParseFault) → failed one ≡ failed two → one ≡ two
failed_is one two e = cc

-- a fault is no statement
not_found : (fault : ParseFault) (statement : Statement) → failed fault ≡ Ok statement → ⊥
not_found fault statement e = cc

-- a fault in place of a form
abbrev unmade : ParseFault → Made
unmade fault = Err fault

-- a fault where a statement is spelled is want of memory
pub no_other_fault : (fault : ParseFault) (statement : Statement)
    → (failed fault ≢ Err Memory → failed fault ≡ Ok statement)
    → unmade fault ≢ Err Memory → unmade fault ≡ Ok (print_of statement)
no_other_fault fault statement only some =
    absurd (not_found fault statement (only (λ e. some (ap unmade (failed_is fault Memory e)))))

-- a text that spells a statement has no fault but want of memory
pub no_place : (text : List ℕ) (statement : Statement) (fault : ParseFault) (made : Made) → IsSpelling text statement
    → IsParseFault text fault → fault ≢ Memory → made ≡ Err fault
no_place text statement fault made spelled is some = absurd (some (no_fault text statement fault spelled is))

-- the fault that was found is the text's one
pub place_found : (text : List ℕ) (found fault : ParseFault) → IsParseFault text found → IsParseFault text fault → fault ≢ Memory
    → unmade found ≢ Err Memory → unmade found ≡ Err fault
place_found text found fault first second some made =
    ap unmade (one_fault text found fault first second (λ e. made (ap unmade e)) some)
