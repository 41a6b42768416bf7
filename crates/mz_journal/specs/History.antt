-- Calls sorted by time.
use Rattle.std.specs.Prelude.{ℕ, ◌==◌, List, [], ◌∷◌, filter, nat_le, if◌then◌else◌}
use Rattle.mz_log.specs.declared.journal.CallEntry.{CallEntry}

-- the sorted calls with one more, which stands before those of its own time and of later times
abbrev pub put : CallEntry → List CallEntry → List CallEntry
put call [] = call ∷ []
put call (other ∷ others) = if nat_le call.time other.time then call ∷ other ∷ others else other ∷ put call others

-- the calls sorted by time; those of one time stay in their order
abbrev pub by_time : List CallEntry → List CallEntry
by_time [] = []
by_time (call ∷ calls) = put call (by_time calls)

-- the calls of one time, in their order
abbrev pub calls_at : ℕ → List CallEntry → List CallEntry
calls_at time calls = filter (λ call. call.time == time) calls
