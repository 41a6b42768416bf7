-- A read between the halves of a round, and the calls of two sessions in the history.
use Rattle.std.proofs.Common.{◌≡◌, [], ◌∷◌, Ok, Err, codes, map, refl}
use Rattle.mz_grammar.specs.declared.asked.Asked.TheVariants as asks
use Rattle.mz_refusal.specs.declared.refusal.Refusal.TheVariants.{Busy}
use Rattle.mz_log.specs.declared.entry.Entry.TheVariants.{Opened, Queue, Begin, Apply, Read}
use Rattle.mz_log.specs.declared.reply.SeqReply.TheVariants as told
use Rattle.mz_log.specs.CarriedOut.{seq}
use Rattle.mz_log.specs.Log.{Log}
use Rattle.mz_books.specs.Answer.{answer}
use Rattle.mz_books.specs.Collections.{collections}
use Rattle.mz_books.specs.History.{history}
use Rattle.mz_books.specs.Holds.{pending}
use Rattle.mz_books.specs.Rounds.{ddl, last_time, read_time}
use Rattle.mz_books.specs.States.{query_plan}
use Rattle.mz_laws.specs.examples.Logs.{create_ix, replied, select_kv}

-- s1 asks for an index, and a round takes the command
abbrev pub half : Log
half = Begin 1 1 ∷ Queue 1 1 create_ix ∷ Opened (codes "s2") ∷ Opened (codes "s1") ∷ []

-- its time is given, and not yet to be read
given_not_read : (last_time half ≡ 1) × (read_time half ≡ 0)
given_not_read = (refl, refl)

-- s2 reads in between, at the read time, and a collection is made for it
reads_before : answer half 2 [] (asks.Statement select_kv) ≡ Ok (Read 2 1 1 0 select_kv 2)
unfolding answer query_plan seq
reads_before = refl

-- the round is applied
abbrev pub whole : Log
whole = Apply 1 (replied 1 1 create_ix (told.Created 2) ∷ []) ∷ Read 2 1 1 0 select_kv 2 ∷ half

-- the read waits at its own time still, and its session with it
waits_then : map (λ peek. peek.time) (pending whole) ≡ 0 ∷ []
waits_then = refl

waits : answer whole 2 [] (asks.Statement select_kv) ≡ Err (Busy 1)
unfolding answer query_plan seq
waits = refl

-- the index has the next collection, from the time of the round on
made_after : (map (λ c. c.as_of) (collections whole) ≡ 0 ∷ 0 ∷ 1 ∷ []) × (ddl whole ≡ 1)
unfolding query_plan seq
made_after = (refl, refl)

-- in the history the read stands first, since its time is the earlier one, though it was submitted later
pub stands_first : (map (λ call. call.stored.session) (history whole) ≡ 2 ∷ 1 ∷ []) × (map (λ call. call.stored.time) (history whole) ≡ 0 ∷ 1 ∷ [])
unfolding seq
stands_first = (refl, refl)
