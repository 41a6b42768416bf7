-- Sessions: their names, whether they are closed, and what they have of the calls.
use Rattle.std.specs.Prelude.{ℕ, ◌-◌, ◌==◌, ◌≤◌, List, [], ◌∷◌, ◌++◌, Bool, true, false, Option, find, length, option_map, slice_get, unwrap_or, if◌then◌else◌}
use Rattle.mz_log.specs.declared.entry.Entry.TheVariants.{Opened, Close}
use Rattle.mz_log.specs.Log.{Log}
use Rattle.mz_books.specs.Calls.{calls, calls_of, is_waiting, seen_in}

-- the names of the sessions in order of opening; a session's number is its position, counted from 1
abbrev pub sessions : Log → List (List ℕ)
sessions [] = []
sessions (Opened name ∷ log) = sessions log ++ name ∷ []
sessions (entry ∷ log) = sessions log

-- the session is one that was opened
pub record IsOpened (log : Log) (session : ℕ) : Type 0 where
  pub from_one : 1 ≤ session
  pub there : session ≤ length (sessions log)

-- the name of the session with this number
abbrev pub session_name : Log → ℕ → List ℕ
session_name log session = unwrap_or (slice_get (sessions log) (session - 1)) []

-- the session was closed
abbrev pub is_closed : Log → ℕ → Bool
is_closed [] session = false
is_closed (Close closed ∷ log) session = if closed == session then true else is_closed log session
is_closed (entry ∷ log) session = is_closed log session

-- how many calls the session has made; they are numbered from 1
abbrev pub calls_made : Log → ℕ → ℕ
calls_made log session = length (calls_of session (calls log))

-- the greatest time of the session's calls, or 0
abbrev pub seen : Log → ℕ → ℕ
seen log session = seen_in session (calls log)

-- the number of the session's call that has no reply yet, where there is one
abbrev pub outstanding : Log → ℕ → Option ℕ
outstanding log session = option_map (λ call. call.stored.call) (find is_waiting (calls_of session (calls log)))
