-- Good logs: each legal one that owes nothing is, and so is what an event leaves of a good one.
use Rattle.std.proofs.Common.{◌≡◌, [], refl}
use Rattle.mz_log.specs.declared.entry.Entry.{Entry}
use Rattle.mz_log.specs.Log.{Log}
use Rattle.mz_books.specs.Legal.{Legal, MayFollow}
use Rattle.mz_books.specs.Owed.{event, owed}
use Rattle.mz_books.specs.Safe.{Good}
use Rattle.mz_replay_laws.proofs.LegalReplay.{legal_replay}
use Rattle.mz_safe_laws.proofs.Honest.{legal_logs_are_safe}
use Rattle.mz_event_laws.proofs.Whole.{IsWhole, event_whole}

-- a legal log that owes nothing is good
pub legal_good : (log : Log) → Legal log → owed log ≡ [] → Good log
legal_good log l none = record { legal = l; ended = none; replays = legal_replay log l; safe = legal_logs_are_safe log l }

-- so is the log in which nothing has happened
pub empty_good : Good []
empty_good = legal_good [] tt refl

-- an event of a good log leaves a good one
pub event_good : (log : Log) (entry : Entry) → Good log → MayFollow log entry → Good (event log entry)
event_good log entry good may =
    let whole : IsWhole (event log entry) = event_whole log entry good.legal good.ended may in
    legal_good (event log entry) whole.legal whole.none
