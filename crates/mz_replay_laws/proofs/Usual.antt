-- Each call is of the one cluster there is, and what is no read asks for no rows.
use Rattle.std.proofs.Common.{◌≡◌, false, [], ◌∷◌, None, IfSome, refl}
use Rattle.mz_statement.specs.Kind.{kind_of}
use Rattle.mz_log.specs.declared.entry.Entry.TheVariants.{Queue, Read, Instant, Refused}
use Rattle.mz_log.specs.Log.{Log}
use Rattle.mz_books.specs.Calls.{calls}
use Rattle.mz_books.specs.Legal.{Legal}
use Rattle.mz_state_laws.specs.Kinds.{is_read}
use Rattle.mz_replay_laws.proofs.Accepted.{answered_of}
use Rattle.mz_replay_laws.proofs.SaidCalls.{EachSaid, Saying, said_on}

-- a call is of cluster 0, and asks for no rows where it has no peek
abbrev pub IsUsual : Saying
IsUsual peek said cluster = (cluster ≡ 0) × (peek ≡ None → IfSome said (λ statement. is_read (kind_of statement) ≡ false))

-- so it is in a legal log
pub all_usual : (log : Log) → Legal log → EachSaid IsUsual (calls log)
all_usual [] l = tt
all_usual (Queue session call statement ∷ log) l =
    let may = l.1.may in
    said_on IsUsual log (Queue session call statement)
    (refl, λ _. (answered_of log session may.text may.asked (Queue session call statement) may.answered).1) (all_usual log l.0)
all_usual (Instant session call statement time ∷ log) l =
    let may = l.1.may in
    said_on IsUsual log (Instant session call statement time)
    (refl, λ _. (answered_of log session may.text may.asked (Instant session call statement time) may.answered).1) (all_usual log l.0)
all_usual (Read session call peek time statement collection ∷ log) l =
    said_on IsUsual log (Read session call peek time statement collection) (refl, λ none. absurd (cc)) (all_usual log l.0)
all_usual (Refused session call text refusal ∷ log) l = said_on IsUsual log (Refused session call text refusal) (refl, λ _. tt) (all_usual log l.0)
all_usual (entry ∷ log) l = said_on IsUsual log entry tt (all_usual log l.0)
