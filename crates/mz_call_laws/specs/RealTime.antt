-- Which calls were submitted after others, which got the newest time, and which stand before
-- others.
use Rattle.std.specs.Prelude.{◌≡◌, ℕ, ◌⊎◌, List, [], ◌∷◌, ◌++◌, Bool, true, false, Option, Some, drop, length}
use Rattle.std.specs.List.{list_any}
use Rattle.mz_log.specs.declared.entry.Entry.TheVariants.{Apply, Read, Instant}
use Rattle.mz_log.specs.declared.entry.Replied.{Replied}
use Rattle.mz_log.specs.declared.reply.Reply.{Reply}
use Rattle.mz_log.specs.declared.reply.Reply.TheVariants as reply
use Rattle.mz_log.specs.Log.{Log}
use Rattle.mz_books.specs.Entries.{is_reply_to}
use Rattle.mz_books.specs.Rounds.{read_time}
use Rattle.mz_books.specs.Calls.{Call, calls}
use Rattle.mz_call_laws.specs.Members.{Has}

-- the calls that were submitted by these further entries, as the longer log has them
abbrev pub submitted_since : Log → Log → List Call
submitted_since log since = drop (length (calls log)) (calls (since ++ log))

-- it is what a round replied
abbrev pub is_of_round : Option Reply → Bool
is_of_round (Some (reply.Command told)) = true
is_of_round other = false

-- a round at this time, with these replies, applied that call of that session, whose time it
-- therefore is
pub record IsAppliedBy (round : ℕ) (replies : List Replied) (session number time : ℕ) : Type 0 where
  pub own_time : time ≡ round
  pub replied : list_any (is_reply_to session number) replies ≡ true

-- that call of that session is the one that this session made under this number, at the read time
-- of the log
pub record IsNewest (log : Log) (caller call session number time : ℕ) : Type 0 where
  pub own_session : caller ≡ session
  pub own_number : call ≡ number
  pub newest : time ≡ read_time log

-- one of these further entries gave that call of that session this time, when it was the newest: a
-- round applied it, or it is a read or a statement carried out at once, at the read time
abbrev pub IsGiven : (log since : Log) → (session number time : ℕ) → Type 0
IsGiven log [] session number time = ⊥
IsGiven log (Apply round replies ∷ since) session number time =
    IsAppliedBy round replies session number time ⊎ IsGiven log since session number time
IsGiven log (Read caller call peek at statement collection ∷ since) session number time =
    IsNewest (since ++ log) caller call session number time ⊎ IsGiven log since session number time
IsGiven log (Instant caller call statement at ∷ since) session number time =
    IsNewest (since ++ log) caller call session number time ⊎ IsGiven log since session number time
IsGiven log (entry ∷ since) session number time = IsGiven log since session number time

-- these further entries placed the call at the newest time
abbrev pub IsPlaced : (log since : Log) → Call → Type 0
IsPlaced log since call = IsGiven log since call.stored.session call.stored.call call.stored.time

-- the first call has a place in the list before one of the second
abbrev pub StandsBefore : Call → Call → List Call → Type 0
StandsBefore first second [] = ⊥
StandsBefore first second (call ∷ calls) =
    ((call ≡ first) × Has second calls) ⊎ StandsBefore first second calls

-- the call is that read, of the same session, number, peek and time, with or without its reply
pub record IsSameRead (read call : Call) : Type 0 where
  pub session : call.stored.session ≡ read.stored.session
  pub number : call.stored.call ≡ read.stored.call
  pub peek : call.peek ≡ read.peek
  pub time : call.stored.time ≡ read.stored.time
