-- Machines between two lines.
use Rattle.std.specs.Prelude.{◌≡◌, [], ⊤}
use Rattle.mz_grammar.specs.Asked.{IsAsked}
use Rattle.mz_books.specs.Legal.{Legal}
use Rattle.mz_books.specs.Owed.{owed}
use Rattle.mz_script.specs.ScriptLine.{Machine}
use Rattle.mz_script.specs.declared.script_line.ScriptLine.{ScriptLine}
use Rattle.mz_script.specs.declared.script_line.ScriptLine.TheVariants.{Says}
use Rattle.mz_script_laws.specs.Places.{HasOneReplica}

-- the machine is at rest: its log is legal and owes nothing, and its one replica stands where the log has it
pub record IsAtRest (machine : Machine) : Type 0 where
  pub legal : Legal machine.log
  pub whole : owed machine.log ≡ []
  pub one : HasOneReplica machine

-- a line is honest: what a session's text asks for in it is what the text asks for
abbrev pub IsHonest : ScriptLine → Type 0
IsHonest (Says name text asked) = IsAsked text asked
IsHonest line = ⊤
