-- What the lines of a script do on sessions, rounds and holds.
use Rattle.std.specs.Prelude.{ℕ, ◌+◌, ◌==◌, ◌&&◌, List, [], ◌++◌, Option, None, Some, Result, Ok, Err, bytes_eq, codes, decimal, find, flat_map, is_none, is_some, position, if◌then◌else◌, ⊤}
use Rattle.std.specs.Option.{option_map_or}
use Rattle.mz_statement.specs.declared.statement.Statement.TheVariants.{ShowFrontiers}
use Rattle.mz_grammar.specs.declared.asked.Asked.{Asked}
use Rattle.mz_refusal.specs.declared.refusal.Refusal.{Refusal}
use Rattle.mz_refusal.specs.declared.refusal.Refusal.TheVariants.{TimeSpent}
use Rattle.mz_resolution.specs.Steps.{Step}
use Rattle.mz_rules.specs.declared.capability.Hold.{Hold}
use Rattle.mz_log.specs.declared.entry.Entry.{Entry}
use Rattle.mz_log.specs.declared.entry.Entry.TheVariants.{Queue, Read, Refused, Instant}
use Rattle.mz_log.specs.declared.entry.Replied.{Replied}
use Rattle.mz_log.specs.Log.{Log}
use Rattle.mz_books.specs.Entries.{Queued, after}
use Rattle.mz_books.specs.Clusters.{cluster_of}
use Rattle.mz_books.specs.Rounds.{Round, open_round, queued}
use Rattle.mz_books.specs.States.{newest_state, replies_to}
use Rattle.mz_books.specs.Collections.{collections, numbered}
use Rattle.mz_books.specs.Holds.{holds}
use Rattle.mz_books.specs.Since.{settled, shown}
use Rattle.mz_books.specs.Calls.{calls, is_call}
use Rattle.mz_books.specs.Sessions.{outstanding, session_name, sessions}
use Rattle.mz_books.specs.Owed.{event}
use Rattle.mz_books.specs.Answer.{answer}
use Rattle.mz_books.specs.Given.{Given, BeginRefusal, RoundOpen, NoTime, Begun, CancelRefusal, NoCall, InRound, begin_given, cancelling_given, closing_given, finish_given, opening_given}
use Rattle.mz_books.specs.GivenReplicas.{acquire_given, downgrade_given, release_given}
use Rattle.mz_script.specs.Texts.{instant_words, line_end, refused_words}
use Rattle.mz_script.specs.EventTexts.{begun_text, call_refused_text, cancelled_text, closed_text, done_text, frontiers_text, instant_text, line_of, no_call_text, no_session_text, none_of, open_text, queued_text, reading_text, refused_text, replied_text, spent_text}
use Rattle.mz_script.specs.ScriptLine.{Machine, Said, and_then, only_says, says, with_log}

-- ---- sessions

-- what is said of the entry of a session's call
abbrev pub entry_text : Log → List ℕ → Entry → List ℕ
entry_text log name (Queue session call statement) = queued_text name call
entry_text log name (Read session call peek time statement collection) = reading_text name call time peek
entry_text log name (Refused session call text refusal) = call_refused_text name call refusal
entry_text log name (Instant session call ShowFrontiers time) = frontiers_text name call time (shown (holds log) (settled log))
entry_text log name (Instant session call statement time) = instant_text name call (instant_words statement) time
entry_text log name entry = []

-- a submission was answered so
abbrev pub answered : Machine → List ℕ → Step Entry → Said
answered machine name (Ok entry) = says machine (event machine.log entry) (entry_text machine.log name entry)
answered machine name (Err refusal) = only_says machine (refused_text name refusal)

-- a session says a text
abbrev pub submits : List ℕ → ℕ → List ℕ → Asked → Machine → Said
submits name session text asked machine = answered machine name (answer machine.log session text asked)

-- a session was opened under a new name, and says a text; or it wasn't opened
abbrev pub opened_says : Machine → List ℕ → List ℕ → Asked → Given ℕ Refusal → Result ℕ Refusal → Said
opened_says machine name text asked given (Ok session) =
    submits name session text asked (with_log machine (after given.entries machine.log))
opened_says machine name text asked given (Err refusal) = only_says machine (refused_text name refusal)

-- the session of a name says a text; it is opened where there is none
abbrev pub session_says : Machine → List ℕ → List ℕ → Asked → Option ℕ → Said
session_says machine name text asked (Some place) = submits name (place + 1) text asked machine
session_says machine name text asked None =
    opened_says machine name text asked (opening_given machine.log name) (opening_given machine.log name).answer

-- the position of a session's name, counted from 0
abbrev pub session_place : Log → List ℕ → Option ℕ
session_place log name = position (bytes_eq name) (sessions log)

-- the time of a call
abbrev pub call_time : Log → ℕ → ℕ → ℕ
call_time log session call = option_map_or (λ own. own.stored.time) (find (is_call session call) (calls log)) 0

-- a session's call was cancelled, or why it wasn't
abbrev pub cancelled : Machine → List ℕ → ℕ → Given ℕ CancelRefusal → Result ℕ CancelRefusal → Said
cancelled machine name session given (Ok call) =
    says machine (after given.entries machine.log) (cancelled_text name call (call_time machine.log session call))
cancelled machine name session given (Err NoCall) = only_says machine (no_call_text name)
cancelled machine name session given (Err (InRound round)) = only_says machine (open_text round)

-- the call of a session is cancelled
abbrev pub cancels : Machine → List ℕ → Option ℕ → Said
cancels machine name None = only_says machine (no_session_text name)
cancels machine name (Some place) =
    cancelled machine name (place + 1) (cancelling_given machine.log (place + 1) (outstanding machine.log (place + 1)))
    (cancelling_given machine.log (place + 1) (outstanding machine.log (place + 1))).answer

-- a session was closed, or why it wasn't
abbrev pub closed : Machine → List ℕ → Given ⊤ Refusal → Result ⊤ Refusal → Said
closed machine name given (Ok done) = says machine (after given.entries machine.log) (closed_text name)
closed machine name given (Err refusal) = only_says machine (refused_text name refusal)

-- a session is closed
abbrev pub closes : Machine → List ℕ → Option ℕ → Said
closes machine name None = only_says machine (no_session_text name)
closes machine name (Some place) =
    closed machine name (closing_given machine.log (place + 1)) (closing_given machine.log (place + 1)).answer

-- ---- rounds

-- what is said of each command that is refused for want of time
abbrev pub spent_texts : Log → ℕ → List Queued → List ℕ
spent_texts log last commands =
    flat_map (λ command. call_refused_text (session_name log command.session) command.call (TimeSpent last)) commands

-- what is said of a round that was begun, or wasn't
abbrev pub begin_text : Log → Result Begun BeginRefusal → List ℕ
begin_text log (Ok begun) = begun_text begun.round begun.time begun.commands
begin_text log (Err (RoundOpen round)) = open_text round
begin_text log (Err (NoTime last now)) = spent_text last now ++ spent_texts log last (queued log)

-- a round is begun
abbrev pub begins : Machine → Said
begins machine =
    says machine (after (begin_given machine.log machine.moment (open_round machine.log)).entries machine.log)
    (begin_text machine.log (begin_given machine.log machine.moment (open_round machine.log)).answer)

-- what is said of the replies of a round at a time
abbrev pub replies_text : Log → ℕ → List Replied → List ℕ
replies_text log time replies =
    flat_map (λ replied. replied_text (session_name log replied.session) replied.call time replied.reply) replies

-- what is said of the open round that is applied
abbrev pub finish_text : Log → Option Round → List ℕ
finish_text log None = line_of (codes "no round")
finish_text log (Some round) =
    done_text round.number ++ replies_text log round.time (replies_to (cluster_of log) (newest_state log) round.commands)

-- the open round is applied
abbrev pub finishes : Machine → Said
finishes machine =
    says machine (after (finish_given machine.log (open_round machine.log)).entries machine.log)
    (finish_text machine.log (open_round machine.log))

-- the open round is applied, where there is one
abbrev pub finishes_if_open : Machine → Said
finishes_if_open machine = if is_some (open_round machine.log) then finishes machine else only_says machine []

-- a round is begun, and applied where it was
abbrev pub commits : Machine → Said
commits machine =
    if is_some (open_round machine.log) then begins machine else and_then (begins machine) finishes_if_open

-- ---- holds

-- a refusal that stands alone on its line
abbrev pub refusal_line : Refusal → List ℕ
refusal_line refusal = line_of (refused_words refusal)

-- a hold stands on a name at a time
abbrev pub hold_text : ℕ → List ℕ → ℕ → List ℕ
hold_text hold name time =
    codes "hold " ++ (decimal hold ++ (codes ": " ++ (name ++ (codes " at " ++ (decimal time ++ line_end)))))

-- a hold was taken, or why it wasn't
abbrev pub held : Machine → List ℕ → ℕ → Given ℕ Refusal → Result ℕ Refusal → Said
held machine name time given (Ok hold) = says machine (after given.entries machine.log) (hold_text hold name time)
held machine name time given (Err refusal) = only_says machine (refusal_line refusal)

-- a hold is taken
abbrev pub takes_hold : Machine → List ℕ → ℕ → Said
takes_hold machine name time =
    held machine name time (acquire_given machine.log name time) (acquire_given machine.log name time).answer

-- the live hold of this number that no BEGIN took
abbrev pub free_hold : Log → ℕ → Option Hold
free_hold log hold = find (λ live. (live.number == hold) && is_none live.owner) (holds log)

-- what the collection of a hold is called
abbrev pub held_name : Log → Hold → List ℕ
held_name log hold = option_map_or (λ c. c.name) (numbered hold.collection (collections log)) []

-- a hold was moved, or why it wasn't
abbrev pub moved : Machine → Hold → ℕ → Given ⊤ Refusal → Result ⊤ Refusal → Said
moved machine hold time given (Ok done) =
    says machine (after given.entries machine.log) (hold_text hold.number (held_name machine.log hold) time)
moved machine hold time given (Err refusal) = only_says machine (refusal_line refusal)

-- a hold is moved
abbrev pub moves_hold : Machine → ℕ → ℕ → Option Hold → Said
moves_hold machine number time None = only_says machine (none_of (codes "hold") (decimal number))
moves_hold machine number time (Some hold) =
    moved machine hold time (downgrade_given machine.log hold time) (downgrade_given machine.log hold time).answer

-- a hold is given back
abbrev pub gives_back : Machine → ℕ → Option Hold → Said
gives_back machine number None = only_says machine (none_of (codes "hold") (decimal number))
gives_back machine number (Some hold) =
    says machine (after (release_given machine.log number).entries machine.log)
    (codes "hold " ++ (decimal number ++ (codes " released" ++ line_end)))
