-- The calls of a session, and the order of calls.
use Rattle.std.specs.Prelude.{◌≡◌, ℕ, ◌==◌, ◌<◌, ◌≤◌, List, [], ◌∷◌, Some, filter, map, false}
use Rattle.mz_books.specs.Calls.{Call, is_waiting}

-- the numbers that the calls have in their sessions
abbrev pub numbers : List Call → List ℕ
numbers calls = map (λ call. call.stored.call) calls

-- the calls that have no reply
abbrev pub unreplied : List Call → List Call
unreplied calls = filter is_waiting calls

-- the calls of one time, in their order
abbrev pub calls_at : ℕ → List Call → List Call
calls_at time calls = filter (λ call. call.stored.time == time) calls

-- the calls are of one session
abbrev pub AreOfOne : Call → Call → Type 0
AreOfOne first second = first.stored.session ≡ second.stored.session

-- the second call was submitted after the first: in one session it has a greater number, no earlier
-- time, and the first has its reply; and of two reads, in any sessions, it has the greater peek
pub record Precedes (first second : Call) : Type 0 where
  pub numbered : AreOfOne first second → first.stored.call < second.stored.call
  pub replied : AreOfOne first second → is_waiting first ≡ false
  pub no_later : AreOfOne first second → first.stored.time ≤ second.stored.time
  pub peeks : (peek other : ℕ) → first.peek ≡ Some peek → second.peek ≡ Some other → peek < other

-- the time of the last of the calls, or this time where there is none
abbrev pub last_time_of : ℕ → List Call → ℕ
last_time_of time [] = time
last_time_of time (call ∷ calls) = last_time_of call.stored.time calls
