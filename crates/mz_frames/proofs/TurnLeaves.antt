-- What a turn leaves: all but the pending peeks and the calls that wait for them.
use Rattle.std.proofs.Common.{◌≡◌, ℕ, length, refl}
use Rattle.mz_log.specs.Log.{Log}
use Rattle.mz_books.specs.Calls.{calls}
use Rattle.mz_books.specs.Clusters.{clusters}
use Rattle.mz_books.specs.Holds.{holds, holds_taken, peeks_made, transaction}
use Rattle.mz_books.specs.Rounds.{ddl, last_time, open_round, queued, read_time, rounds}
use Rattle.mz_books.specs.Sessions.{calls_made, is_closed, seen, sessions}
use Rattle.mz_books.specs.States.{newest_state}
use Rattle.mz_frames.specs.Turns.{IsTurn}
use Rattle.mz_frames.proofs.Turning.{finish_long, finish_made, finish_seen, turn_leaves}

-- ---- sessions

-- the names of sessions
pub turn_names : (log later : Log) → IsTurn log later → sessions later ≡ sessions log
turn_names log later t = turn_leaves sessions (λ l peek rows. refl) (λ l m own. refl) log later t

-- which are closed
pub turn_closed : (log later : Log) → IsTurn log later → (session : ℕ) → is_closed later session ≡ is_closed log session
turn_closed log later t session = turn_leaves (λ l. is_closed l session) (λ l peek rows. refl) (λ l m own. refl) log later t

-- how many calls they have made
pub turn_made : (log later : Log) → IsTurn log later → (session : ℕ) → calls_made later session ≡ calls_made log session
turn_made log later t session = turn_leaves (λ l. calls_made l session) (λ l peek rows. finish_made l peek rows session) (λ l m own. refl) log later t

-- how many calls there are
pub turn_long : (log later : Log) → IsTurn log later → length (calls later) ≡ length (calls log)
turn_long log later t = turn_leaves (λ l. length (calls l)) finish_long (λ l m own. refl) log later t

-- what they have seen
pub turn_seen : (log later : Log) → IsTurn log later → (session : ℕ) → seen later session ≡ seen log session
turn_seen log later t session = turn_leaves (λ l. seen l session) (λ l peek rows. finish_seen l peek rows session) (λ l m own. refl) log later t

-- their transactions
pub turn_transaction : (log later : Log) → IsTurn log later → (session : ℕ) → transaction later session ≡ transaction log session
turn_transaction log later t session = turn_leaves (λ l. transaction l session) (λ l peek rows. refl) (λ l m own. refl) log later t

-- all of these
pub ruleset turn_sessions = (turn_names, turn_closed, turn_made, turn_long, turn_seen, turn_transaction)

-- ---- rounds and the state

-- the commands that wait
pub turn_queue : (log later : Log) → IsTurn log later → queued later ≡ queued log
turn_queue log later t = turn_leaves queued (λ l peek rows. refl) (λ l m own. refl) log later t

-- the open round
pub turn_open : (log later : Log) → IsTurn log later → open_round later ≡ open_round log
turn_open log later t = turn_leaves open_round (λ l peek rows. refl) (λ l m own. refl) log later t

-- how many rounds were begun
pub turn_begun : (log later : Log) → IsTurn log later → rounds later ≡ rounds log
turn_begun log later t = turn_leaves rounds (λ l peek rows. refl) (λ l m own. refl) log later t

-- the last time
pub turn_last : (log later : Log) → IsTurn log later → last_time later ≡ last_time log
turn_last log later t = turn_leaves last_time (λ l peek rows. refl) (λ l m own. refl) log later t

-- the read time
pub turn_read : (log later : Log) → IsTurn log later → read_time later ≡ read_time log
turn_read log later t = turn_leaves read_time (λ l peek rows. refl) (λ l m own. refl) log later t

-- when an item was last made or removed
pub turn_ddl : (log later : Log) → IsTurn log later → ddl later ≡ ddl log
turn_ddl log later t = turn_leaves ddl (λ l peek rows. refl) (λ l m own. refl) log later t

-- the newest state
pub turn_state : (log later : Log) → IsTurn log later → newest_state later ≡ newest_state log
turn_state log later t = turn_leaves newest_state (λ l peek rows. refl) (λ l m own. refl) log later t

-- all of these
pub ruleset turn_rounds = (turn_queue, turn_open, turn_begun, turn_last, turn_read, turn_ddl, turn_state)

-- ---- clusters, peeks and holds

-- the clusters
pub turn_clusters : (log later : Log) → IsTurn log later → clusters later ≡ clusters log
turn_clusters log later t = turn_leaves clusters (λ l peek rows. refl) (λ l m own. refl) log later t

-- how many peeks were made
pub turn_peeks : (log later : Log) → IsTurn log later → peeks_made later ≡ peeks_made log
turn_peeks log later t = turn_leaves peeks_made (λ l peek rows. refl) (λ l m own. refl) log later t

-- the live holds
pub turn_holds_live : (log later : Log) → IsTurn log later → holds later ≡ holds log
turn_holds_live log later t = turn_leaves holds (λ l peek rows. refl) (λ l m own. refl) log later t

-- how many holds were taken
pub turn_taken : (log later : Log) → IsTurn log later → holds_taken later ≡ holds_taken log
turn_taken log later t = turn_leaves holds_taken (λ l peek rows. refl) (λ l m own. refl) log later t

-- all of these
pub ruleset turn_holds = (turn_clusters, turn_peeks, turn_holds_live, turn_taken)
