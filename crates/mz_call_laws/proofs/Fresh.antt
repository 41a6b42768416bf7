-- At which time a read reads.
use Rattle.std.proofs.Common.{◌≡◌, ℕ, ◌≤◌, ◌∷◌, ◌++◌, None, refl, ap, ◌∙◌, arith}
use Rattle.std.specs.Prelude.{unwrap_or}
use Rattle.mz_statement.specs.declared.statement.Statement.{Statement}
use Rattle.mz_log.specs.declared.entry.Entry.TheVariants.{Read, Instant}
use Rattle.mz_log.specs.Log.{Log}
use Rattle.mz_books.specs.Rounds.{ddl, read_time}
use Rattle.mz_books.specs.Holds.{transaction}
use Rattle.mz_books.specs.Calls.{Call, calls}
use Rattle.mz_books.specs.Sessions.{seen}
use Rattle.mz_books.specs.Answer.{as_of}
use Rattle.mz_books.specs.Legal.{Legal}
use Rattle.mz_call_laws.specs.Members.{Has}
use Rattle.mz_call_laws.proofs.Lists.{each_has}
use Rattle.mz_call_laws.proofs.Accepted.{made_is}
use Rattle.mz_call_laws.proofs.Timed.{timed}
use Rattle.mz_call_laws.proofs.Times.{legal_earlier, read_rises}
use Rattle.mz_call_laws.proofs.Transactions.{seen_within}
use Rattle.mz_call_laws.proofs.NewCalls.{read_behind}

-- outside a transaction, and where no time is named, it is at the read time
pub read_newest : (log : Log) (session call peek time : ℕ) (statement : Statement) (collection : ℕ)
    → Legal (Read session call peek time statement collection ∷ log)
    → transaction log session ≡ None → as_of statement ≡ None → time ≡ read_time log
read_newest log session call peek time statement collection l outside unnamed =
    (made_is log session (Read session call peek time statement collection) l.1.may).is.picked
    ∙ ap (λ o. unwrap_or o (unwrap_or (as_of statement) (read_time log))) outside
    ∙ ap (λ o. unwrap_or o (read_time log)) unnamed

-- so it is from the read time of each earlier log on
pub read_fresh : (log since : Log) (session call peek time : ℕ) (statement : Statement) (collection : ℕ)
    → Legal (Read session call peek time statement collection ∷ (since ++ log))
    → transaction (since ++ log) session ≡ None → as_of statement ≡ None → read_time log ≤ time
read_fresh log since session call peek time statement collection l outside unnamed =
    let now = read_newest (since ++ log) session call peek time statement collection l outside unnamed in
    let before = read_rises log since l.0 in omega arith

-- and from the time of each call of it on
pub read_behind_calls : (log since : Log) (session call peek time : ℕ) (statement : Statement) (collection : ℕ)
    → Legal (Read session call peek time statement collection ∷ (since ++ log))
    → transaction (since ++ log) session ≡ None → as_of statement ≡ None → (earlier : Call) → Has earlier (calls log)
    → earlier.stored.time ≤ time
read_behind_calls log since session call peek time statement collection l outside unnamed earlier there =
    let from = read_fresh log since session call peek time statement collection l outside unnamed in
    let until = each_has _ earlier (calls log) (timed log (legal_earlier log since l.0)).done there in omega arith

-- each read is at a time that may be read
pub read_readable : (log : Log) (session call peek time : ℕ) (statement : Statement) (collection : ℕ)
    → Legal (Read session call peek time statement collection ∷ log) → time ≤ read_time log
read_readable log session call peek time statement collection l =
    (made_is log session (Read session call peek time statement collection) l.1.may).is.readable

-- from the last CREATE or DROP on
pub read_from_ddl : (log : Log) (session call peek time : ℕ) (statement : Statement) (collection : ℕ)
    → Legal (Read session call peek time statement collection ∷ log) → ddl log ≤ time
read_from_ddl log session call peek time statement collection l =
    (made_is log session (Read session call peek time statement collection) l.1.may).is.from_ddl

-- and from what its session has seen on
pub read_from_seen : (log : Log) (session call peek time : ℕ) (statement : Statement) (collection : ℕ)
    → Legal (Read session call peek time statement collection ∷ log) → seen log session ≤ time
read_from_seen log session call peek time statement collection l =
    let is_read = (made_is log session (Read session call peek time statement collection) l.1.may).is in
    seen_within session time (calls log)
    (read_behind log session time statement (transaction log session) (as_of statement) refl refl (timed log l.0) is_read.picked is_read.from_seen)

-- what is carried out at once outside a transaction is at the read time
pub instant_newest : (log : Log) (session call time : ℕ) (statement : Statement)
    → Legal (Instant session call statement time ∷ log) → transaction log session ≡ None → time ≡ read_time log
instant_newest log session call time statement l outside =
    (made_is log session (Instant session call statement time) l.1.may).is.own_time ∙ ap (λ o. unwrap_or o (read_time log)) outside
