-- What a command that is queued, and a read that is made, change of what sessions have.
use Rattle.std.proofs.Common.{◌≡◌, ℕ, ◌+◌, cond, ◌==◌, ◌∷◌, length, Some, refl}
use Rattle.mz_statement.specs.declared.statement.Statement.{Statement}
use Rattle.mz_log.specs.declared.entry.Entry.TheVariants.{Queue, Read}
use Rattle.mz_log.specs.Log.{Log}
use Rattle.mz_books.specs.Calls.{calls}
use Rattle.mz_books.specs.Sessions.{calls_made, outstanding, seen}
use Rattle.mz_books.specs.Legal.{Legal}
use Rattle.mz_call_laws.proofs.Accepted.{made_is}
use Rattle.mz_call_laws.proofs.Fresh.{read_from_seen}
use Rattle.mz_frames.proofs.Appended.{long_one, made_one, seen_newer, seen_still, waits_one}

-- ---- a command

-- its session has made one call more
pub queue_made : (log : Log) (session call : ℕ) (statement : Statement) (other : ℕ)
    → calls_made (Queue session call statement ∷ log) other ≡ cond (session == other) (calls_made log other + 1) (calls_made log other)
queue_made log session call statement other = made_one other (calls log) _

-- there is one call more
pub queue_long : (log : Log) (session call : ℕ) (statement : Statement)
    → length (calls (Queue session call statement ∷ log)) ≡ length (calls log) + 1
queue_long log session call statement = long_one (calls log) _

-- it is the call of its session that has no reply
pub queue_waits : (log : Log) (session call : ℕ) (statement : Statement) → Legal (Queue session call statement ∷ log) → (other : ℕ)
    → outstanding (Queue session call statement ∷ log) other ≡ cond (session == other) (Some call) (outstanding log other)
queue_waits log session call statement l other =
    waits_one other (calls log) _ refl (made_is log session (Queue session call statement) l.1.may).none_waits

-- no session has seen a later time
pub queue_seen : (log : Log) (session call : ℕ) (statement : Statement) (other : ℕ)
    → seen (Queue session call statement ∷ log) other ≡ seen log other
queue_seen log session call statement other = seen_still other (calls log) _ refl

-- all of these
pub ruleset queued_ones = (queue_made, queue_long, queue_waits, queue_seen)

-- ---- a read

-- its session has made one call more
pub read_made : (log : Log) (session call peek time : ℕ) (statement : Statement) (collection other : ℕ)
    → calls_made (Read session call peek time statement collection ∷ log) other
    ≡ cond (session == other) (calls_made log other + 1) (calls_made log other)
read_made log session call peek time statement collection other = made_one other (calls log) _

-- there is one call more
pub read_long : (log : Log) (session call peek time : ℕ) (statement : Statement) (collection : ℕ)
    → length (calls (Read session call peek time statement collection ∷ log)) ≡ length (calls log) + 1
read_long log session call peek time statement collection = long_one (calls log) _

-- it is the call of its session that has no reply
pub read_waits : (log : Log) (session call peek time : ℕ) (statement : Statement) (collection : ℕ)
    → Legal (Read session call peek time statement collection ∷ log) → (other : ℕ)
    → outstanding (Read session call peek time statement collection ∷ log) other ≡ cond (session == other) (Some call) (outstanding log other)
read_waits log session call peek time statement collection l other =
    waits_one other (calls log) _ refl (made_is log session (Read session call peek time statement collection) l.1.may).none_waits

-- its session has seen its time
pub read_seen : (log : Log) (session call peek time : ℕ) (statement : Statement) (collection : ℕ)
    → Legal (Read session call peek time statement collection ∷ log) → (other : ℕ)
    → seen (Read session call peek time statement collection ∷ log) other ≡ cond (session == other) time (seen log other)
read_seen log session call peek time statement collection l other =
    seen_newer other (calls log) _ (read_from_seen log session call peek time statement collection l)
