-- The text of a statement is read again as the statement.
use Rattle.std.proofs.Common.{◌≡◌, ℕ, List, [], sym, subst}
use Rattle.mz_statement.specs.declared.statement.Statement.{Statement}
use Rattle.mz_statement.specs.Statement.{IsStatement}
use Rattle.mz_grammar.specs.Grammar.{Spells, IsSpelling}
use Rattle.mz_print.specs.Print.{print_statement, print_of}
use Rattle.mz_print.proofs.CutAgain.{cut_again}
use Rattle.mz_print.proofs.PrintedPieces.{pieces}
use Rattle.mz_print.proofs.Spelled.{spelled}

-- the text that is printed of a statement spells it
pub reads_again : (statement : Statement) → IsStatement statement → IsSpelling (print_of statement) statement
reads_again statement is =
    let cut = cut_again (print_statement statement []) (pieces statement is) in
    (cut.0, cut.1, subst (λ toks. Spells toks statement) (sym cut.2) (spelled statement is))

-- and so does a text that is equal to it
pub reads_equal : (statement : Statement) (text : List ℕ) → text ≡ print_of statement → IsStatement statement → IsSpelling text statement
reads_equal statement text same is = subst (λ bytes. IsSpelling bytes statement) (sym same) (reads_again statement is)
