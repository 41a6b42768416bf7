-- Which lines the program carries out so far, and what it does where it doesn't.
use Rattle.std.specs.Prelude.{ℕ, ◌+◌, ◌&&◌, List, [], ◌∷◌, Bool, true, false, Some, if◌then◌else◌, ⊤}
use Rattle.mz_statement.specs.declared.statement.Kind.{Kind}
use Rattle.mz_statement.specs.declared.statement.Kind.TheVariants as kind
use Rattle.mz_statement.specs.declared.statement.Statement.{Statement}
use Rattle.mz_statement.specs.declared.statement.Statement.TheVariants.{Query}
use Rattle.mz_statement.specs.Kind.{kind_of}
use Rattle.mz_grammar.specs.Asked.{IsAsked}
use Rattle.mz_grammar.specs.declared.asked.Asked.{Asked}
use Rattle.mz_grammar.specs.declared.asked.Asked.TheVariants as asks
use Rattle.mz_script.specs.declared.script_line.ScriptLine.{ScriptLine}
use Rattle.mz_script.specs.declared.script_line.ScriptLine.TheVariants.{Skipped, Unreadable, Says, Tick, BeginRound, FinishRound, CommitRound, Settle}
use Rattle.mz_script.specs.EventTexts.{unbuilt_text}
use Rattle.mz_script.specs.ScriptLine.{Machine, Said, and_then, only_says}
use Rattle.mz_script.specs.LineEvents.{after_line, one_more}

-- commands and queries are built, and other statements aren't yet
abbrev pub is_built_kind : Kind → Bool
is_built_kind kind.Command = true
is_built_kind kind.Query = true
is_built_kind other = false

-- the statement names no time at which it reads
abbrev pub names_no_time : Statement → Bool
names_no_time (Query query (Some time)) = false
names_no_time other = true

-- what a session asks for is built: a command, a query that names no time, or a text that is no statement
abbrev pub is_built_asked : Asked → Bool
is_built_asked (asks.Statement statement) = is_built_kind (kind_of statement) && names_no_time statement
is_built_asked other = true

-- what the line says is built
abbrev pub is_built : ScriptLine → Bool
is_built Skipped = true
is_built Unreadable = true
is_built (Says name text asked) = is_built_asked asked
is_built (Tick moment) = true
is_built BeginRound = true
is_built FinishRound = true
is_built CommitRound = true
is_built Settle = true
is_built other = false

-- what a session asks for is what its text asks for
abbrev pub IsHeard : ScriptLine → Type 0
IsHeard (Says name text asked) = IsAsked text asked
IsHeard other = ⊤

-- what the next line does, where it is built. Any other is counted, and nothing else is done
abbrev pub after_built_line : Machine → ScriptLine → Said
after_built_line machine line =
    if is_built line then after_line machine line else only_says (one_more machine) (unbuilt_text (machine.lines + 1))

-- what lines do, one after another
abbrev pub after_built_lines : List ScriptLine → Machine → Said
after_built_lines [] machine = only_says machine []
after_built_lines (line ∷ lines) machine = and_then (after_built_line machine line) (after_built_lines lines)
