-- In a plain log no session is closed or in a transaction, nothing is held, and there is one cluster.
use Rattle.std.specs.Prelude.{codes}
use Rattle.std.proofs.Common.{◌≡◌, ℕ, ◌≤◌, false, List, [], ◌∷◌, None, refl, arith}
use Rattle.std.specs.List.{list_any}
use Rattle.std.proofs.lemmas.Bool.{cond_both}
use Rattle.mz_log.specs.declared.entry.Entry.{Entry}
use Rattle.mz_log.specs.declared.entry.Entry.TheVariants.{Apply, Instant, Close, Acquire, Down, Release, Cluster}
use Rattle.mz_log.specs.Log.{Log}
use Rattle.mz_books.specs.Entries.{after}
use Rattle.mz_books.specs.Clusters.{clusters}
use Rattle.mz_books.specs.Holds.{holds, holds_taken, transaction}
use Rattle.mz_books.specs.Legal.{Legal}
use Rattle.mz_books.specs.Rounds.{ddl, moves_items, read_time}
use Rattle.mz_books.specs.Sessions.{is_closed}
use Rattle.mz_call_laws.proofs.Times.{round_later}
use Rattle.std.specs.List.{AllByRecursion as Each}
use Rattle.mz_script_laws.specs.Plain.{IsPlain, IsPlainLog}

-- no session is closed
pub none_closed : (log : Log) → IsPlainLog log → (session : ℕ) → is_closed log session ≡ false
none_closed [] p session = refl
none_closed (Close closed ∷ log) p session = absurd p.0
none_closed (entry ∷ log) p session = none_closed log p.1 session

-- none is in a transaction
pub no_transaction : (log : Log) → IsPlainLog log → (session : ℕ) → transaction log session ≡ None
no_transaction [] p session = refl
no_transaction (Instant caller call statement time ∷ log) p session = absurd p.0
no_transaction (Close closed ∷ log) p session = absurd p.0
no_transaction (entry ∷ log) p session = no_transaction log p.1 session

-- no hold is live
pub no_hold : (log : Log) → IsPlainLog log → holds log ≡ []
no_hold [] p = refl
no_hold (Acquire hold collection time ∷ log) p = absurd p.0
no_hold (Down hold time ∷ log) p = absurd p.0
no_hold (Release hold ∷ log) p = absurd p.0
no_hold (entry ∷ log) p = no_hold log p.1

-- none was taken
pub none_taken : (log : Log) → IsPlainLog log → holds_taken log ≡ 0
none_taken [] p = refl
none_taken (Acquire hold collection time ∷ log) p = absurd p.0
none_taken (entry ∷ log) p = none_taken log p.1

-- there is one cluster
pub one_cluster : (log : Log) → IsPlainLog log → clusters log ≡ codes "main" ∷ []
one_cluster [] p = refl
one_cluster (Cluster name ∷ log) p = absurd p.0
one_cluster (entry ∷ log) p = one_cluster log p.1

-- plain entries leave a plain log plain
pub plain_after : (entries : List Entry) (log : Log) → Each IsPlain entries → IsPlainLog log → IsPlainLog (after entries log)
plain_after [] log e p = p
plain_after (entry ∷ entries) log e p = plain_after entries (entry ∷ log) e.1 (e.0, p)

-- no CREATE or DROP was done after the read time
pub ddl_read : (log : Log) → Legal log → ddl log ≤ read_time log
ddl_read [] l = omega arith
ddl_read (Apply time replies ∷ log) l =
    let before = ddl_read log l.0 in
    let later = round_later log time replies l in
    cond_both (list_any (λ replied. moves_items replied.reply) replies) time (ddl log) (λ t. t ≤ time)
    (λ _. omega arith) (λ _. omega (arith, before, later))
ddl_read (entry ∷ log) l = ddl_read log l.0
