-- The calls of a log, each with its time and its reply, and what sessions have of them.
use Rattle.std.specs.Prelude.{ℕ, ◌==◌, ◌&&◌, List, [], ◌∷◌, ◌++◌, Bool, false, Option, None, Some, filter, find, is_none, map, max, if◌then◌else◌}
use Rattle.std.specs.List.{list_any}
use Rattle.std.specs.Option.{option_map_or}
use Rattle.mz_statement.specs.declared.statement.Statement.{Statement}
use Rattle.mz_statement.specs.declared.statement.Statement.TheVariants.{ShowFrontiers}
use Rattle.mz_bag.specs.Weighted.{Weighted}
use Rattle.mz_print.specs.Print.{print_of}
use Rattle.mz_log.specs.declared.entry.Entry.TheVariants.{Queue, Apply, Read, Finish, Refused, Instant, Cancel}
use Rattle.mz_log.specs.declared.entry.Replied.{Replied}
use Rattle.mz_log.specs.declared.journal.CallEntry.{CallEntry}
use Rattle.mz_log.specs.declared.reply.Reply.{Reply}
use Rattle.mz_log.specs.declared.reply.Reply.TheVariants as reply
use Rattle.mz_log.specs.Log.{Log}
use Rattle.mz_books.specs.Entries.{is_reply_to}
use Rattle.mz_books.specs.Clusters.{cluster_of}
use Rattle.mz_books.specs.Holds.{holds}
use Rattle.mz_books.specs.Since.{settled, shown}

-- ---- calls

-- a call: as a journal stores it; the statement that it asks for, where it was accepted; the cluster of its session then; and the peek
-- whose rows a read waits for
pub record Call : Type 0 where
  pub stored : CallEntry
  pub statement : Option Statement
  pub cluster : ℕ
  pub peek : Option ℕ

-- the call is that of this number in that session
abbrev pub is_call : ℕ → ℕ → Call → Bool
is_call session number call = (call.stored.session == session) && (call.stored.call == number)

-- the call has no reply yet
abbrev pub is_waiting : Call → Bool
is_waiting call = is_none call.stored.reply

-- the call is a read that waits for this peek
abbrev pub awaits : ℕ → Call → Bool
awaits peek call = option_map_or (λ own. own == peek) call.peek false && is_waiting call

-- a call with its reply, as a journal stores it at this time
abbrev pub stored_reply : ℕ → Reply → CallEntry → CallEntry
stored_reply time reply stored = record stored { time = time; reply = Some reply }

-- the call with its reply, at this time
abbrev pub with_reply : ℕ → Reply → Call → Call
with_reply time reply call = record call { stored = stored_reply time reply call.stored }

-- ---- replies

-- the call with the reply of a round at this time, where there is one
abbrev pub replied_by : ℕ → Option Replied → Call → Call
replied_by time None call = call
replied_by time (Some replied) call = with_reply time (reply.Command replied.reply) call

-- the call once a round at this time has replied to some: if it waits, and one of the replies is to it
abbrev pub replied_in : ℕ → List Replied → Call → Call
replied_in time replies call =
    if is_waiting call
    then replied_by time (find (is_reply_to call.stored.session call.stored.call) replies) call
    else call

-- the call once the peek has its rows: if it waits for it
abbrev pub finished : ℕ → Weighted → Call → Call
finished peek rows call = if awaits peek call then with_reply call.stored.time (reply.Rows call.stored.time rows) call else call

-- the call with a reply at its own time, if it waits and is that of this number in that session
abbrev pub ended : ℕ → ℕ → (ℕ → Reply) → Call → Call
ended session number reply_at call =
    if is_call session number call && is_waiting call
    then with_reply call.stored.time (reply_at call.stored.time) call
    else call

-- ---- all calls

-- the calls of the session, in their order
abbrev pub calls_of : ℕ → List Call → List Call
calls_of session calls = filter (λ call. call.stored.session == session) calls

-- the greatest time of the session's calls, or 0: no later call of it has an earlier time
abbrev pub seen_in : ℕ → List Call → ℕ
seen_in session [] = 0
seen_in session (call ∷ calls) =
    if call.stored.session == session then max call.stored.time (seen_in session calls) else seen_in session calls

-- a call that is made under this number, with its text in its one form
abbrev pub new_call : ℕ → ℕ → ℕ → List ℕ → Option Reply → Option Statement → ℕ → Option ℕ → Call
new_call session number time text told statement cluster peek = record {
  stored = record { session = session; call = number; time = time; text = text; reply = told };
  statement = statement;
  cluster = cluster;
  peek = peek;
}

-- the reply to a statement that is carried out at once: SHOW FRONTIERS is told how far collections are readable, all others their time
abbrev pub instant_reply : Log → Statement → ℕ → Reply
instant_reply log ShowFrontiers time = reply.Frontiers time (shown (holds log) (settled log))
instant_reply log statement time = reply.Instant time

-- the calls once one of them, which waits, or a new one at this time, is refused
abbrev pub with_refusal : ℕ → ℕ → List ℕ → Reply → ℕ → ℕ → List Call → List Call
with_refusal session number text told cluster time calls =
    if list_any (is_call session number) calls
    then map (ended session number (λ own. told)) calls
    else calls ++ new_call session number time text (Some told) None cluster None ∷ []

-- all calls, in the order in which they were submitted. A command has the time of its round once that is applied, and until then the
-- greatest time that its session has seen, as a call has that is refused or cancelled before; a read has its own time, and what is
-- carried out at once has the time that it got
abbrev pub calls : Log → List Call
calls [] = []
calls (Queue session number statement ∷ log) =
    calls log ++ new_call session number (seen_in session (calls log)) (print_of statement) None (Some statement)
    (cluster_of log session) None ∷ []
calls (Read session number peek time statement collection ∷ log) =
    calls log ++ new_call session number time (print_of statement) None (Some statement) (cluster_of log session) (Some peek) ∷ []
calls (Instant session number statement time ∷ log) =
    calls log ++ new_call session number time (print_of statement) (Some (instant_reply log statement time)) (Some statement)
    (cluster_of log session) None ∷ []
calls (Refused session number text refusal ∷ log) =
    with_refusal session number text (reply.Refused refusal) (cluster_of log session) (seen_in session (calls log)) (calls log)
calls (Apply time replies ∷ log) = map (replied_in time replies) (calls log)
calls (Finish peek rows ∷ log) = map (finished peek rows) (calls log)
calls (Cancel session number ∷ log) = map (ended session number reply.Cancelled) (calls log)
calls (entry ∷ log) = calls log
