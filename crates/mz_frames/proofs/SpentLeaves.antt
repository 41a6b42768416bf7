-- What the refusal of commands leaves: all but the commands and the calls that wait for them.
use Rattle.std.proofs.Common.{◌≡◌, ℕ, List, [], ◌∷◌, refl, ◌∙◌}
use Rattle.mz_plan.specs.declared.command.PendingPeek.{PendingPeek}
use Rattle.mz_print.specs.Print.{print_of}
use Rattle.mz_refusal.specs.declared.refusal.Refusal.{Refusal}
use Rattle.mz_refusal.specs.declared.refusal.Refusal.TheVariants.{TimeSpent}
use Rattle.mz_log.specs.declared.entry.Entry.TheVariants.{Refused}
use Rattle.mz_log.specs.Log.{Log}
use Rattle.mz_books.specs.Clusters.{clusters}
use Rattle.mz_books.specs.Entries.{Queued, after}
use Rattle.mz_books.specs.Given.{spent}
use Rattle.mz_books.specs.Holds.{holds, holds_taken, peeks_made, pending, transaction}
use Rattle.mz_books.specs.Owed.{peek_rows}
use Rattle.mz_books.specs.Rounds.{ddl, last_time, open_round, read_time, rounds}
use Rattle.mz_books.specs.Sessions.{is_closed, sessions}
use Rattle.mz_books.specs.States.{newest_state}
use Rattle.mz_frames.proofs.Spending.{refused_as}

-- what each refusal leaves, all of them leave
pub refusals_leave : {A : Type 0} (view : Log → A)
    → ((log : Log) (session call : ℕ) (text : List ℕ) (refusal : Refusal) → view (Refused session call text refusal ∷ log) ≡ view log)
    → (last : ℕ) (commands : List Queued) (log : Log) → view (after (spent last commands) log) ≡ view log
refusals_leave view leaves last [] log = refl
refusals_leave view leaves last (m ∷ ms) log =
    refusals_leave view leaves last ms (refused_as last m ∷ log) ∙ leaves log m.session m.call (print_of m.statement) (TimeSpent last)

-- ---- sessions

-- the names of sessions
pub spent_names : (log : Log) (last : ℕ) (commands : List Queued) → sessions (after (spent last commands) log) ≡ sessions log
spent_names log last commands = refusals_leave sessions (λ l m call text refusal. refl) last commands log

-- which are closed
pub spent_closed : (log : Log) (last : ℕ) (commands : List Queued) (session : ℕ)
    → is_closed (after (spent last commands) log) session ≡ is_closed log session
spent_closed log last commands session = refusals_leave (λ l. is_closed l session) (λ l m call text refusal. refl) last commands log

-- their transactions
pub spent_transaction : (log : Log) (last : ℕ) (commands : List Queued) (session : ℕ)
    → transaction (after (spent last commands) log) session ≡ transaction log session
spent_transaction log last commands session = refusals_leave (λ l. transaction l session) (λ l m call text refusal. refl) last commands log

-- all of these
pub ruleset spent_sessions = (spent_names, spent_closed, spent_transaction)

-- ---- rounds and the state

-- the open round
pub spent_open : (log : Log) (last : ℕ) (commands : List Queued) → open_round (after (spent last commands) log) ≡ open_round log
spent_open log last commands = refusals_leave open_round (λ l m call text refusal. refl) last commands log

-- how many rounds were begun
pub spent_begun : (log : Log) (last : ℕ) (commands : List Queued) → rounds (after (spent last commands) log) ≡ rounds log
spent_begun log last commands = refusals_leave rounds (λ l m call text refusal. refl) last commands log

-- the last time
pub spent_last : (log : Log) (last : ℕ) (commands : List Queued) → last_time (after (spent last commands) log) ≡ last_time log
spent_last log last commands = refusals_leave last_time (λ l m call text refusal. refl) last commands log

-- the read time
pub spent_read : (log : Log) (last : ℕ) (commands : List Queued) → read_time (after (spent last commands) log) ≡ read_time log
spent_read log last commands = refusals_leave read_time (λ l m call text refusal. refl) last commands log

-- when an item was last made or removed
pub spent_ddl : (log : Log) (last : ℕ) (commands : List Queued) → ddl (after (spent last commands) log) ≡ ddl log
spent_ddl log last commands = refusals_leave ddl (λ l m call text refusal. refl) last commands log

-- the newest state
pub spent_state : (log : Log) (last : ℕ) (commands : List Queued) → newest_state (after (spent last commands) log) ≡ newest_state log
spent_state log last commands = refusals_leave newest_state (λ l m call text refusal. refl) last commands log

-- all of these
pub ruleset spent_rounds = (spent_open, spent_begun, spent_last, spent_read, spent_ddl, spent_state)

-- ---- clusters, peeks and holds

-- the pending peeks
pub spent_pending : (log : Log) (last : ℕ) (commands : List Queued) → pending (after (spent last commands) log) ≡ pending log
spent_pending log last commands = refusals_leave pending (λ l m call text refusal. refl) last commands log

-- the rows that a peek waits for
pub spent_rows : (log : Log) (last : ℕ) (commands : List Queued) (waiting : PendingPeek)
    → peek_rows (after (spent last commands) log) waiting ≡ peek_rows log waiting
spent_rows log last commands waiting = refusals_leave (λ l. peek_rows l waiting) (λ l m call text refusal. refl) last commands log

-- the clusters
pub spent_clusters : (log : Log) (last : ℕ) (commands : List Queued) → clusters (after (spent last commands) log) ≡ clusters log
spent_clusters log last commands = refusals_leave clusters (λ l m call text refusal. refl) last commands log

-- how many peeks were made
pub spent_peeks : (log : Log) (last : ℕ) (commands : List Queued) → peeks_made (after (spent last commands) log) ≡ peeks_made log
spent_peeks log last commands = refusals_leave peeks_made (λ l m call text refusal. refl) last commands log

-- the live holds
pub spent_holds : (log : Log) (last : ℕ) (commands : List Queued) → holds (after (spent last commands) log) ≡ holds log
spent_holds log last commands = refusals_leave holds (λ l m call text refusal. refl) last commands log

-- how many holds were taken
pub spent_taken : (log : Log) (last : ℕ) (commands : List Queued) → holds_taken (after (spent last commands) log) ≡ holds_taken log
spent_taken log last commands = refusals_leave holds_taken (λ l m call text refusal. refl) last commands log

-- all of these
pub ruleset spent_holds_ones = (spent_pending, spent_rows, spent_clusters, spent_peeks, spent_holds, spent_taken)
