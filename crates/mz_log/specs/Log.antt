-- Logs.
use Rattle.std.specs.Prelude.{List}
use Rattle.mz_log.specs.declared.entry.Entry.{Entry}

-- what has happened, the newest entry first: `entry ∷ log` is the log with one entry more, and a tail is an earlier log
abbrev pub Log : Type 0
Log = List Entry
