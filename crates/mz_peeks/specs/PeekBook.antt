-- The book of peeks, and what each call makes of it.
use Rattle.std.specs.Prelude.{ℕ, ◌+◌, List, [], ◌∷◌, ◌++◌, filter, not}
use Rattle.mz_plan.specs.declared.command.PendingPeek.{PendingPeek}
use Rattle.mz_log.specs.Log.{Log}
use Rattle.mz_books.specs.Holds.{is_of_call, is_peek, peeks_made, pending}

-- the peeks that wait for their rows, in order of their numbers, and how many were made
pub record PeekBook : Type 0 where
  pub pending : List PendingPeek
  pub made : ℕ

-- no peek was made
abbrev pub no_peeks : PeekBook
no_peeks = record { pending = []; made = 0 }

-- the peeks of a log
abbrev pub peeks_of : Log → PeekBook
peeks_of log = record { pending = pending log; made = peeks_made log }

-- the next peek: that of a call, of a collection at a time
abbrev pub new_peek : (session call collection time : ℕ) → PeekBook → PendingPeek
new_peek session call collection time b =
    record { peek = b.made + 1; session = session; call = call; collection = collection; time = time }

-- a peek more
abbrev pub with_peek : (session call collection time : ℕ) → PeekBook → PeekBook
with_peek session call collection time b =
    record { pending = b.pending ++ new_peek session call collection time b ∷ []; made = b.made + 1 }

-- without the peek of this number
abbrev pub without_peek : ℕ → PeekBook → PeekBook
without_peek peek b = record b { pending = filter (λ waiting. not (is_peek peek waiting)) b.pending }

-- without the peek of this call
abbrev pub without_call : ℕ → ℕ → PeekBook → PeekBook
without_call session call b = record b { pending = filter (λ waiting. not (is_of_call session call waiting)) b.pending }
