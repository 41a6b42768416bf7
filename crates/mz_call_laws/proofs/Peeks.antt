-- The peeks of calls are among those that were made.
use Rattle.std.proofs.Common.{◌≡◌, ℕ, ◌+◌, ◌≤◌, [], ◌∷◌, Some, arith}
use Rattle.std.specs.List.{AllByRecursion as Each}
use Rattle.mz_rules.proofs.Each.{each_map, each_of, each_one}
use Rattle.mz_log.specs.declared.entry.Entry.TheVariants.{Queue, Apply, Read, Finish, Refused, Instant, Cancel}
use Rattle.mz_log.specs.declared.reply.Reply.TheVariants as reply
use Rattle.mz_log.specs.Log.{Log}
use Rattle.mz_books.specs.Clusters.{cluster_of}
use Rattle.mz_books.specs.Holds.{peeks_made}
use Rattle.mz_books.specs.Calls.{Call, calls, ended, finished, replied_in, seen_in}
use Rattle.mz_books.specs.Legal.{Legal}
use Rattle.mz_call_laws.proofs.Options.{absent, present}
use Rattle.mz_call_laws.proofs.Accepted.{made_is}
use Rattle.mz_call_laws.proofs.Replied.{IsReplied, ended_is, finished_is, replied_is, replied_keeps}
use Rattle.mz_call_laws.proofs.Transactions.{refused_keeps}

-- the peek of the call, where it has one, is numbered from 1 up to here
abbrev pub PeekWithin : ℕ → Call → Type 0
PeekWithin most call = (peek : ℕ) → call.peek ≡ Some peek → (1 ≤ peek) × (peek ≤ most)

-- a call keeps its peek
kept_peek : (most : ℕ) (before now : Call) → IsReplied (λ _ _. Unit {0}) before now → PeekWithin most before → PeekWithin most now
kept_peek most before now is h = replied_keeps _ (PeekWithin most) before now is h (λ _ _ _ _. h)

-- so it is with all calls
pub peeks_within : (log : Log) → Legal log → Each (PeekWithin (peeks_made log)) (calls log)
peeks_within [] l = tt
peeks_within (Queue session number statement ∷ log) l =
    each_one _ (calls log) _ (peeks_within log l.0) (λ own none. absent own none)
peeks_within (Instant session number statement time ∷ log) l =
    each_one _ (calls log) _ (peeks_within log l.0) (λ own none. absent own none)
peeks_within (Read session number peek time statement collection ∷ log) l =
    let next = (made_is log session (Read session number peek time statement collection) l.1.may).is.next_peek in
    each_one _ (calls log) _
    (each_of _ (PeekWithin (peeks_made log + 1)) (λ c within own some. let h = within own some in (omega arith, omega arith)) (calls log) (peeks_within log l.0))
    (λ own some. let same = present peek own some in (omega arith, omega arith))
peeks_within (Refused session number text refusal ∷ log) l =
    refused_keeps _ session number (cluster_of log session) (seen_in session (calls log)) text (reply.Refused refusal) (calls log)
    (λ c. kept_peek (peeks_made log) c _ (ended_is (λ _ _. Unit {0}) (λ _. tt) session number (λ own. reply.Refused refusal) c))
    (λ own none. absent own none) (peeks_within log l.0)
peeks_within (Apply time replies ∷ log) l =
    each_map _ _ (replied_in time replies)
    (λ c. kept_peek (peeks_made log) c _ (replied_is (λ _ _. Unit {0}) time replies c (λ _ _ _. tt))) (calls log) (peeks_within log l.0)
peeks_within (Finish peek rows ∷ log) l =
    each_map _ _ (finished peek rows)
    (λ c. kept_peek (peeks_made log) c _ (finished_is (λ _ _. Unit {0}) (λ _. tt) peek rows c)) (calls log) (peeks_within log l.0)
peeks_within (Cancel session number ∷ log) l =
    each_map _ _ (ended session number reply.Cancelled)
    (λ c. kept_peek (peeks_made log) c _ (ended_is (λ _ _. Unit {0}) (λ _. tt) session number reply.Cancelled c)) (calls log) (peeks_within log l.0)
peeks_within (entry ∷ log) l = peeks_within log l.0
