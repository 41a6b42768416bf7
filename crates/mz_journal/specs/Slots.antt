-- How a journal finds the call that waits: for the sessions of each slot the place of the last call.
use Rattle.std.specs.Prelude.{ℕ, ◌%◌, ◌==◌, ◌≡◌, ◌<◌, List, [], ◌∷◌, zero, suc, drop, length, slice_index_or, Bool, true, false}
use Rattle.std.specs.List.{list_any}
use Rattle.mz_log.specs.declared.journal.CallEntry.{CallEntry}
use Rattle.mz_log.specs.declared.reply.Reply.{Reply}
use Rattle.mz_journal.specs.Journal.{with_reply}

-- how many slots there are
abbrev pub most_slots : ℕ
most_slots = 64

-- the call is of a session of this slot
abbrev pub is_in : ℕ → CallEntry → Bool
is_in slot entry = (entry.session % most_slots) == slot

-- behind the place of each slot stands no call of it
pub record ArePlaces (places : List ℕ) (calls : List CallEntry) : Type 0 where
  pub none_behind : (slot : ℕ) → slot < most_slots
      → list_any (is_in slot) (drop (suc (slice_index_or places slot 0)) calls) ≡ false

-- the first call that passes the test from behind stands at this place
pub record IsLast (test : CallEntry → Bool) (calls : List CallEntry) (place : ℕ) : Type 0 where
  pub within : place < length calls
  pub passes : (other : CallEntry) → test (slice_index_or calls place other) ≡ true
  pub none_behind : list_any test (drop (suc place) calls) ≡ false

-- the calls once the one at the place has its reply and its time
abbrev pub replied_at : ℕ → ℕ → Reply → List CallEntry → List CallEntry
replied_at place time reply [] = []
replied_at zero time reply (entry ∷ entries) = with_reply time reply entry ∷ entries
replied_at (suc place) time reply (entry ∷ entries) = entry ∷ replied_at place time reply entries
