-- The calls up to a time, and the state that calls leave.
use Rattle.std.specs.Prelude.{ℕ, List, [], ◌∷◌, filter, nat_le}
use Rattle.mz_books.specs.Calls.{Call}
use Rattle.mz_books.specs.History.{after_call}
use Rattle.mz_log.specs.Sequential.{Sequential}

-- the state once these calls are done, one after another
abbrev pub after_calls : Sequential → List Call → Sequential
after_calls state [] = state
after_calls state (call ∷ calls) = after_calls (after_call state call) calls

-- the calls up to a time, in their order
abbrev pub calls_until : ℕ → List Call → List Call
calls_until time calls = filter (λ call. nat_le call.stored.time time) calls
