-- What calls make of what is kept.
use Rattle.std.specs.Prelude.{ℕ, ◌+◌, ◌-◌, List, [], ◌∷◌, ◌++◌, Bool, true, None, Some, slice_get, slice_set, unwrap_or, if◌then◌else◌}
use Rattle.mz_log.specs.Sequential.{Sequential}
use Rattle.mz_oracle.specs.Oracle.{with_last, with_read}
use Rattle.mz_oracle.specs.Rounds.{with_item, with_round, without_queued, without_round}
use Rattle.mz_core.specs.declared.calls.FinishedRead.{FinishedRead}
use Rattle.mz_kept.specs.declared.session.Session.{Session}
use Rattle.mz_core.specs.declared.calls.Waiting.{Waiting}
use Rattle.mz_kept.specs.Kept.{Kept}

-- ---- sessions

-- a session that has made no call
abbrev pub new_session : Session
new_session = record { calls = 0; outstanding = None }

-- the session at a place; a new one where there is none
abbrev pub session_at : List Session → ℕ → Session
session_at sessions place = unwrap_or (slice_get sessions place) new_session

-- the session once it has made a call, which waits or has its reply
abbrev pub called : Bool → Session → Session
called waits session = record {
  calls = session.calls + 1;
  outstanding = if waits then Some (session.calls + 1) else None;
}

-- the session once its call has its reply
abbrev pub quiet : Session → Session
quiet session = record session { outstanding = None }

-- the sessions once the one of this number has made a call
abbrev pub with_call : Bool → ℕ → List Session → List Session
with_call waits session sessions =
    slice_set sessions (session - 1) (called waits (session_at sessions (session - 1)))

-- the sessions once the call of the one of this number has its reply
abbrev pub with_reply : List Session → ℕ → List Session
with_reply sessions session = slice_set sessions (session - 1) (quiet (session_at sessions (session - 1)))

-- and once those of several have
abbrev pub with_replies : List Session → List ℕ → List Session
with_replies sessions [] = sessions
with_replies sessions (session ∷ others) = with_replies (with_reply sessions session) others

-- ---- what is kept

-- a session is opened under this name
abbrev pub opened : List ℕ → Kept → Kept
opened name kept = record kept { names = kept.names ++ name ∷ []; sessions = kept.sessions ++ new_session ∷ [] }

-- a session makes a call, which waits or has its reply
abbrev pub calling : Bool → ℕ → Kept → Kept
calling waits session kept = record kept { sessions = with_call waits session kept.sessions; calls = kept.calls + 1 }

-- the number of the next call of a session
abbrev pub next_call : Kept → ℕ → ℕ
next_call kept session = (session_at kept.sessions (session - 1)).calls + 1

-- a command waits for a round
abbrev pub queueing : Waiting → Kept → Kept
queueing waiting kept = record (calling true waiting.session kept) { rounds = with_item kept.rounds waiting }

-- a read waits with its rows
abbrev pub reading : FinishedRead → Kept → Kept
reading read kept = record (calling true read.session kept) { reads = kept.reads ++ read ∷ []; peeks = kept.peeks + 1 }

-- a round is begun at this time
abbrev pub beginning : ℕ → Kept → Kept
beginning time kept = record kept { oracle = with_last kept.oracle time; rounds = with_round kept.rounds }

-- no time is left, and these sessions have their replies
abbrev pub spending : List ℕ → Kept → Kept
spending sessions kept = record kept {
  sessions = with_replies kept.sessions sessions;
  rounds = without_queued kept.rounds;
}

-- a round is carried out, and leaves this
abbrev pub carrying_out : Sequential → Kept → Kept
carrying_out state kept = record kept { database = state.database; plans = state.plans }

-- the open round is applied, at the last time that was given, and these sessions have their replies
abbrev pub applying : List ℕ → Kept → Kept
applying sessions kept = record kept {
  sessions = with_replies kept.sessions sessions;
  oracle = with_read kept.oracle kept.oracle.last;
  rounds = without_round kept.rounds;
}

-- all reads have their rows, and these sessions their replies
abbrev pub finishing : List ℕ → Kept → Kept
finishing sessions kept = record kept { sessions = with_replies kept.sessions sessions; reads = [] }
