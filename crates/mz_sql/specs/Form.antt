-- The one form of a text.
use Rattle.std.specs.Prelude.{◌≡◌, ℕ, List}
use Rattle.mz_statement.specs.declared.statement.Statement.{Statement}
use Rattle.mz_grammar.specs.Grammar.{IsSpelling}
use Rattle.mz_print.specs.Print.{print_of}

-- the form is the printed text of what the text spells, and spells the same
pub record HasForm (text form : List ℕ) : Type 0 where
  pub statement : Statement
  pub spelled : IsSpelling text statement
  pub printed : form ≡ print_of statement
  pub again : IsSpelling form statement
