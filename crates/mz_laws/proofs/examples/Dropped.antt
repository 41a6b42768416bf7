-- An index is made, is read by a peek, and is dropped under it.
use Rattle.std.proofs.Common.{◌≡◌, [], ◌∷◌, map, Ok, codes, refl}
use Rattle.mz_time.specs.declared.frontier.Frontier.TheVariants.{At}
use Rattle.mz_plan.specs.declared.plan.Plan.TheVariants as plan
use Rattle.mz_log.specs.declared.entry.Entry.TheVariants.{Opened, Queue, Begin, Apply, Read}
use Rattle.mz_log.specs.declared.reply.SeqReply.TheVariants as told
use Rattle.mz_log.specs.CarriedOut.{seq}
use Rattle.mz_log.specs.Log.{Log}
use Rattle.mz_books.specs.States.{query_plan, state_at}
use Rattle.mz_books.specs.Collections.{collections}
use Rattle.mz_books.specs.Since.{since}
use Rattle.mz_laws.specs.examples.Logs.{select_kv, create_ix, drop_ix, replied}

-- s1 makes an index in round 1
abbrev pub indexed : Log
indexed =
    Apply 1 (replied 1 1 create_ix (told.Created 2) ∷ [])
    ∷ Begin 1 1
    ∷ Queue 1 1 create_ix
    ∷ Opened (codes "s1")
    ∷ []

-- the index is the second collection
two_collections : map (λ c. c.number) (collections indexed) ≡ 1 ∷ 2 ∷ []
unfolding seq
two_collections = refl

-- a query of `kv` has the index as its plan
read_by_index : query_plan (record { items = (state_at indexed 1).database.items; cluster = 0 }) select_kv ≡ Ok (plan.Index 2)
unfolding seq query_plan
read_by_index = refl

-- s2 reads it at 1
abbrev pub reading : Log
reading = Read 2 1 1 1 select_kv 2 ∷ Opened (codes "s2") ∷ indexed

-- no collection is made for the read
no_more_collections : map (λ c. c.number) (collections reading) ≡ 1 ∷ 2 ∷ []
unfolding seq query_plan
no_more_collections = refl

-- s1 drops the index in round 2
abbrev pub dropped : Log
dropped =
    Apply 2 (replied 1 2 drop_ix told.Dropped ∷ [])
    ∷ Begin 2 2
    ∷ Queue 1 2 drop_ix
    ∷ reading

-- the pending peek holds the index at 1
since_of_ix : since dropped 2 ≡ At 1
unfolding seq query_plan
since_of_ix = refl

-- and the index holds the table
pub since_of_kv : since dropped 1 ≡ At 1
unfolding seq query_plan
since_of_kv = refl
