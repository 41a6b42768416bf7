-- A read transaction: BEGIN takes holds, COMMIT gives them back.
use Rattle.std.specs.Fmt.{digits}
use Rattle.std.proofs.Common.{◌≡◌, [], ◌∷◌, None, Some, Ok, codes, refl}
use Rattle.mz_time.specs.declared.frontier.Frontier.TheVariants.{At}
use Rattle.mz_grammar.specs.declared.asked.Asked.TheVariants as asks
use Rattle.mz_refusal.specs.declared.refusal.Refusal.TheVariants.{CatalogMoved, InTransaction, NoTransaction}
use Rattle.mz_statement.specs.declared.statement.Statement.{Statement}
use Rattle.mz_statement.specs.declared.statement.Statement.TheVariants.{Commit, CreateView, Start}
use Rattle.mz_log.specs.declared.entry.Entry.TheVariants.{Opened, Queue, Begin, Apply, Read, Refused, Instant, Acquire, Release}
use Rattle.mz_log.specs.declared.reply.SeqReply.TheVariants as told
use Rattle.mz_log.specs.CarriedOut.{seq}
use Rattle.mz_log.specs.Log.{Log}
use Rattle.mz_books.specs.States.{query_plan}
use Rattle.mz_books.specs.Holds.{holds, transaction}
use Rattle.mz_books.specs.Since.{since}
use Rattle.mz_books.specs.Owed.{event, owed}
use Rattle.mz_books.specs.Answer.{answer}
use Rattle.mz_laws.specs.examples.Logs.{all_of, replied, select_kv, select_kv_at, create_ix}
use Rattle.mz_laws.proofs.examples.Dropped.{indexed}

-- s2 begins after s1 made an index, and owes a hold on the table and one on the index
abbrev pub beginning : Log
beginning = Instant 2 1 Start 1 ∷ Opened (codes "s2") ∷ indexed

two_owed : owed beginning ≡ Acquire 1 1 1 ∷ Acquire 2 2 1 ∷ []
unfolding seq
two_owed = refl

-- the event takes both
abbrev pub began : Log
began = Acquire 2 2 1 ∷ Acquire 1 1 1 ∷ beginning

is_event : event (Opened (codes "s2") ∷ indexed) (Instant 2 1 Start 1) ≡ began
unfolding seq
is_event = refl

none_owed : owed began ≡ []
unfolding seq
none_owed = refl

-- they are the session's
two_holds : holds began ≡ record { number = 1; collection = 1; time = 1; owner = Some 2 }
    ∷ record { number = 2; collection = 2; time = 1; owner = Some 2 } ∷ []
unfolding seq
two_holds = refl

-- a round goes by
abbrev pub later : Log
later = Apply 2 [] ∷ Begin 2 2 ∷ began

-- the holds keep both readable at 1
held_back : (since later 1 ≡ At 1) × (since later 2 ≡ At 1)
unfolding seq
held_back = (refl, refl)

-- the session reads at 1
reads_then : answer later 2 [] (asks.Statement select_kv) ≡ Ok (Read 2 2 1 1 select_kv 2)
unfolding answer query_plan seq
reads_then = refl

-- it may name no time, and write nothing
is_inside : (answer later 2 (codes "x") (asks.Statement (select_kv_at 1)) ≡ Ok (Refused 2 2 (codes "SELECT * FROM kv AS OF 1") InTransaction))
    × (answer later 2 (codes "x") (asks.Statement create_ix) ≡ Ok (Refused 2 2 (codes "CREATE INDEX ix ON kv") InTransaction))
unfolding answer query_plan seq digits
is_inside = (refl, refl)

-- CREATE VIEW w AS SELECT * FROM kv
abbrev create_view : Statement
create_view = CreateView (codes "w") (all_of (codes "kv") ∷ [])

-- s1 makes a view, so the catalog has moved
abbrev pub moved : Log
moved = Apply 3 (replied 1 2 create_view (told.Created 3) ∷ []) ∷ Begin 3 3 ∷ Queue 1 2 create_view ∷ later

reads_no_more : answer moved 2 (codes "x") (asks.Statement select_kv) ≡ Ok (Refused 2 2 (codes "SELECT * FROM kv") (CatalogMoved 3 1))
unfolding answer query_plan seq
reads_no_more = refl

-- COMMIT has the time of the transaction, and owes the release of both holds
commits : answer moved 2 [] (asks.Statement Commit) ≡ Ok (Instant 2 2 Commit 1)
unfolding answer query_plan seq
commits = refl

two_released : owed (Instant 2 2 Commit 1 ∷ moved) ≡ Release 1 ∷ Release 2 ∷ []
unfolding seq
two_released = refl

-- then nothing is held, and the sinces go on
abbrev pub committed : Log
committed = Release 2 ∷ Release 1 ∷ Instant 2 2 Commit 1 ∷ moved

let_on : (holds committed ≡ []) × (transaction committed 2 ≡ None) × (since committed 1 ≡ At 1)
unfolding seq
let_on = (refl, refl, refl)

-- there is no transaction to end now
pub ends_none : answer committed 2 (codes "COMMIT") (asks.Statement Commit) ≡ Ok (Refused 2 3 (codes "COMMIT") NoTransaction)
unfolding answer query_plan seq
ends_none = refl
