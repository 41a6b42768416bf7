-- Calls on small values, by computation.
use Rattle.std.proofs.Common.{◌≡◌, ℕ, List, [], ◌∷◌, Option, None, Some, refl}
use Rattle.mz_log.specs.declared.journal.CallEntry.{CallEntry}
use Rattle.mz_log.specs.declared.reply.Reply.{Reply}
use Rattle.mz_log.specs.declared.reply.Reply.TheVariants.{Instant}
use Rattle.mz_journal.specs.History.{by_time, calls_at}
use Rattle.mz_journal.specs.Journal.{answered}

-- a call of a session at a time
abbrev call_of : ℕ → ℕ → ℕ → Option Reply → CallEntry
call_of session call time reply = record { session = session; call = call; time = time; text = []; reply = reply }

-- three calls, of which the first and the last have one time
abbrev three : List CallEntry
three = call_of 1 1 3 None ∷ call_of 2 1 1 None ∷ call_of 3 1 3 None ∷ []

-- their history is the second, the first, the third
sorted : by_time three ≡ call_of 2 1 1 None ∷ call_of 1 1 3 None ∷ call_of 3 1 3 None ∷ []
sorted = refl

-- the calls of that time stand in their order
of_one_time : calls_at 3 (by_time three) ≡ call_of 1 1 3 None ∷ call_of 3 1 3 None ∷ []
of_one_time = refl

-- the call that waits is answered
own_reply : answered 2 1 5 (Instant 5) three ≡ call_of 1 1 3 None ∷ call_of 2 1 5 (Some (Instant 5)) ∷ call_of 3 1 3 None ∷ []
own_reply = refl

-- of two that wait under one number, the last
last_reply : answered 1 1 5 (Instant 5) (call_of 1 1 0 None ∷ call_of 1 1 4 None ∷ []) ≡ call_of 1 1 0 None ∷ call_of 1 1 5 (Some (Instant 5)) ∷ []
last_reply = refl
