-- What a turn says and leaves, as the machine of a script makes it.
use Rattle.std.specs.Prelude.{◌≡◌, ℕ, List, [], flat_map}
use Rattle.mz_log.specs.Log.{Log}
use Rattle.mz_books.specs.Holds.{pending}
use Rattle.mz_books.specs.Owed.{owed, peek_rows}
use Rattle.mz_books.specs.Sessions.{session_name}
pub use Rattle.mz_frames.specs.Turns.{IsTurn}
use Rattle.mz_script.specs.EventTexts.{finished_text}
use Rattle.mz_script.specs.ScriptLine.{Machine, Said}
use Rattle.mz_script_laws.specs.Places.{HasOneReplica}

-- what is said of the pending peeks of a log, once each has its rows
abbrev pub all_told : Log → List ℕ
all_told log = flat_map (λ peek. finished_text (session_name log peek.session) peek.call peek.time (peek_rows log peek)) (pending log)

-- a machine made a turn: its log is one turn longer, each pending peek was told its rows, in order, and nothing else has changed but
-- the place of its replica
pub record Turned (machine : Machine) (said : Said) : Type 0 where
  pub turn : IsTurn machine.log said.machine.log
  pub whole : owed said.machine.log ≡ []
  pub none_pending : pending said.machine.log ≡ []
  pub one : HasOneReplica said.machine
  pub moment : said.machine.moment ≡ machine.moment
  pub lines : said.machine.lines ≡ machine.lines
  pub feeds : said.machine.feeds ≡ machine.feeds
  pub packets : said.machine.packets ≡ machine.packets
  pub text : said.text ≡ all_told machine.log
