-- What a journal keeps: calls in the order in which they were put down, each with its reply once it has one.
use Rattle.std.specs.Prelude.{ℕ, refl, ◌+◌, ◌==◌, ◌&&◌, ◌||◌, ◌≤◌, List, [], ◌∷◌, ◌++◌, length, Bool, true, false, not, Some, is_none, if◌then◌else◌}
use Rattle.std.specs.Coded.{Coded, code_by, coded×, coded_list, coded_bool}
use Rattle.std.specs.List.{list_any}
use Rattle.mz_log.specs.declared.journal.CallEntry.{CallEntry}
use Rattle.mz_log.specs.declared.reply.Reply.{Reply}

-- the calls, and whether there is room for one more
pub record JournalState : Type 0 where
  pub calls : List CallEntry
  pub has_room : Bool

-- a state written out, as its calls are
abbrev pub state_code : Coded CallEntry → Coded JournalState
state_code call_code =
    code_by (List CallEntry × Bool) (coded× (coded_list call_code) coded_bool)
    (λ s. (s.calls, s.has_room)) (λ p. record { calls = p.0; has_room = p.1 }) (λ _. refl)

-- how many calls there may be
abbrev pub most_calls : ℕ
most_calls = 1048576

-- the journal with no calls
abbrev pub no_calls : JournalState
no_calls = record { calls = []; has_room = false }

-- there are no more calls than there may be, the one for which there is room counted
abbrev pub IsJournal : JournalState → Type 0
IsJournal journal = length journal.calls + (if journal.has_room then 1 else 0) ≤ most_calls

-- the journal with room for one call
abbrev pub with_room : JournalState → JournalState
with_room journal = record journal { has_room = true }

-- the journal with no room
abbrev pub without_room : JournalState → JournalState
without_room journal = record journal { has_room = false }

-- one call more, behind all others, which takes the room
abbrev pub with_call : JournalState → CallEntry → JournalState
with_call journal call = record { calls = journal.calls ++ call ∷ []; has_room = false }

-- the call has this number in this session, and no reply
abbrev pub is_waiting : ℕ → ℕ → CallEntry → Bool
is_waiting session call entry = (entry.session == session) && (entry.call == call) && is_none entry.reply

-- a call of this number of this session has no reply
abbrev pub has_waiting : ℕ → ℕ → List CallEntry → Bool
has_waiting session call calls = list_any (is_waiting session call) calls

-- the call with its reply, at this time
abbrev pub with_reply : ℕ → Reply → CallEntry → CallEntry
with_reply time reply entry = record entry { time = time; reply = Some reply }

-- the calls once the last that waits under this number of this session has its reply and its time; all others stay
abbrev pub answered : ℕ → ℕ → ℕ → Reply → List CallEntry → List CallEntry
answered session call time reply [] = []
answered session call time reply (entry ∷ entries) =
    if has_waiting session call entries || not (is_waiting session call entry)
    then entry ∷ answered session call time reply entries
    else with_reply time reply entry ∷ entries

-- the journal once that call has its reply and its time
abbrev pub with_answer : JournalState → ℕ → ℕ → ℕ → Reply → JournalState
with_answer journal session call time reply =
    record journal { calls = answered session call time reply journal.calls }
