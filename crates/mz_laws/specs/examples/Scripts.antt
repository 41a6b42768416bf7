-- Scripts for examples: their lines, once they are read, and the text that they are answered with.
use Rattle.std.specs.Prelude.{ℕ, List, [], None, codes}
use Rattle.std.specs.Prelude.{ℤ, ◌++◌, flat_map}
use Rattle.std.specs.FinMap.{empty, entries}
use Rattle.mz_value.specs.Row.{row_cmp}
use Rattle.mz_bag.specs.Weighted.{Weighted, bag_of}
use Rattle.mz_statement.specs.declared.statement.Statement.{Statement}
use Rattle.mz_grammar.specs.declared.asked.Asked.TheVariants as asks
use Rattle.mz_script.specs.EventTexts.{absorbed_text, finished_text, line_of}
use Rattle.mz_script.specs.declared.script_line.ScriptLine.{ScriptLine}
use Rattle.mz_script.specs.declared.script_line.ScriptLine.TheVariants.{Says, MakeFeed}
use Rattle.mz_script.specs.ScriptLine.{opening_machine}
use Rattle.mz_script.specs.LineEvents.{after_lines}

-- the session s1 says a statement
abbrev pub s1 : Statement → ScriptLine
s1 statement = Says (codes "s1") [] (asks.Statement statement)

-- and so does s2
abbrev pub s2 : Statement → ScriptLine
s2 statement = Says (codes "s2") [] (asks.Statement statement)

-- a feed for r1
abbrev pub feed_r1 : ScriptLine
feed_r1 = MakeFeed (codes "r1") None

-- what a script is answered with
abbrev pub answered : List ScriptLine → List ℕ
answered lines = (after_lines lines opening_machine).text

-- these texts, a line each
abbrev pub texts : List (List ℕ) → List ℕ
texts lines = flat_map line_of lines

-- the rows of a table that has none
abbrev pub no_rows : Weighted
no_rows = entries (bag_of (entries (empty {X = ℤ} {R = row_cmp})))

-- a packet is absorbed that finishes a read of such a table
abbrev pub absorbed_one : ℕ → List ℕ → ℕ → ℕ → List ℕ
absorbed_one packet name call time = absorbed_text packet ++ (finished_text name call time no_rows ++ [])
