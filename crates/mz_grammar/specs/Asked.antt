-- What a text asks for: the statement that it spells, or the fault that keeps it from being one.
use Rattle.std.specs.Prelude.{ℕ, List, ◌⊎◌}
use Rattle.mz_lex.specs.Fault.{IsFirstFault}
use Rattle.mz_grammar.specs.declared.asked.Asked.{Asked}
use Rattle.mz_grammar.specs.declared.asked.Asked.TheVariants as asked
use Rattle.mz_grammar.specs.Faults.{IsSyntaxAt, IsRangeAt}
use Rattle.mz_grammar.specs.Grammar.{IsSpelling}

-- the text asks for this
abbrev pub IsAsked : List ℕ → Asked → Type 0
IsAsked text (asked.Statement statement) = IsSpelling text statement
IsAsked text (asked.Syntax at) = IsFirstFault text at ⊎ IsSyntaxAt text at
IsAsked text (asked.LiteralRange at) = IsRangeAt text at
