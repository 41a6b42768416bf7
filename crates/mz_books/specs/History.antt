-- The history of a log, and that it replays on the sequential object.
use Rattle.std.specs.Prelude.{◌≡◌, ℕ, List, [], ◌∷◌, Option, None, Some, IfSome, nat_le, if◌then◌else◌, ⊤}
use Rattle.mz_statement.specs.declared.statement.Statement.{Statement}
use Rattle.mz_log.specs.declared.reply.Reply.{Reply}
use Rattle.mz_log.specs.declared.reply.Reply.TheVariants as reply
use Rattle.mz_log.specs.Sequential.{Sequential, opening}
use Rattle.mz_log.specs.CarriedOut.{Response, Command, Rows, seq}
use Rattle.mz_log.specs.Log.{Log}
use Rattle.mz_books.specs.Calls.{Call, calls}

-- ---- the history

-- the sorted calls with one more, which stands before those of its own time and of later times
abbrev pub put : Call → List Call → List Call
put call [] = call ∷ []
put call (other ∷ others) =
    if nat_le call.stored.time other.stored.time then call ∷ other ∷ others else other ∷ put call others

-- the calls sorted by time; those of one time stay in their order
abbrev pub by_time : List Call → List Call
by_time [] = []
by_time (call ∷ calls) = put call (by_time calls)

-- all calls of a log in the order of their times, those of one time in the order in which they were submitted
abbrev pub history : Log → List Call
history log = by_time (calls log)

-- ---- its replay

-- a statement is told this by the sequential object in this state. Where there is no statement, nothing is told
abbrev pub IsToldIn : Sequential → ℕ → Option Statement → Response → Type 0
IsToldIn state cluster None response = ⊥
IsToldIn state cluster (Some statement) response = (seq state cluster statement).response ≡ response

-- the reply is one that the call may have in this state. What a round replied, and the rows of a read, are what the sequential object
-- tells; what was carried out at once, or cancelled, shows the call's own time; and a refusal is judged where it was given
abbrev pub IsReplyFrom : Sequential → Call → Reply → Type 0
IsReplyFrom state call (reply.Command told) = IsToldIn state call.cluster call.statement (Command told)
IsReplyFrom state call (reply.Rows time rows) =
    (time ≡ call.stored.time) × IsToldIn state call.cluster call.statement (Rows rows)
IsReplyFrom state call (reply.Instant time) = time ≡ call.stored.time
IsReplyFrom state call (reply.Frontiers time rows) = time ≡ call.stored.time
IsReplyFrom state call (reply.Cancelled time) = time ≡ call.stored.time
IsReplyFrom state call (reply.Refused refusal) = ⊤

-- the state once a round carried out a statement; where there is none, nothing changes
abbrev pub after_statement : Sequential → ℕ → Option Statement → Sequential
after_statement state cluster None = state
after_statement state cluster (Some statement) = (seq state cluster statement).state

-- the state after a call that has this reply: what no round applied changes nothing
abbrev pub after_reply : Sequential → Call → Option Reply → Sequential
after_reply state call (Some (reply.Command told)) = after_statement state call.cluster call.statement
after_reply state call other = state

-- the state after a call
abbrev pub after_call : Sequential → Call → Sequential
after_call state call = after_reply state call call.stored.reply

-- done one after another from this state on, the calls have the replies that they should have. A call that has none is as it should be
abbrev pub ReplayFrom : Sequential → List Call → Type 0
ReplayFrom state [] = ⊤
ReplayFrom state (call ∷ calls) =
    IfSome call.stored.reply (IsReplyFrom state call) × ReplayFrom (after_call state call) calls

-- the history of the log replays from the opening state
abbrev pub Replays : Log → Type 0
Replays log = ReplayFrom opening (history log)
