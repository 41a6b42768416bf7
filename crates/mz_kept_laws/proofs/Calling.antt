-- The sessions of a log in which one of them has made a call.
use Rattle.std.proofs.Common.{◌≡◌, ℕ, ◌+◌, ◌-◌, ◌==◌, Bool, true, false, List, ◌∷◌, None, length, refl, sym, ap, subst, ◌∙◌, arith, inl, inr}
use Rattle.std.proofs.lemmas.Bool.{cases_Bool, cond-false, cond-true, eq-eqb, eqb-true, both_ways}
use Rattle.mz_refusal.specs.declared.refusal.Refusal.{Refusal}
use Rattle.mz_statement.specs.declared.statement.Statement.{Statement}
use Rattle.mz_log.specs.Log.{Log}
use Rattle.mz_log.specs.declared.entry.Entry.TheVariants.{Queue, Read, Refused}
use Rattle.mz_books.specs.Calls.{calls}
use Rattle.mz_books.specs.Legal.{Legal}
use Rattle.mz_books.specs.Sessions.{calls_made, outstanding, sessions}
use Rattle.mz_frames.proofs.Refusals.{refused_long, refused_made, refused_waits}
use Rattle.mz_frames.proofs.Submissions.{queue_long, queue_made, queue_waits, read_long, read_made, read_waits}
use Rattle.mz_kept.specs.Kept.{Kept}
use Rattle.mz_kept.specs.Standing.{HasSessions, session_in}
use Rattle.mz_kept.specs.Steps.{called, calling, next_call, session_at, with_call}
use Rattle.mz_core.specs.Told.{IsNumberOf}
use Rattle.mz_kept.specs.Within.{IsWithin}
use Rattle.mz_kept_laws.proofs.SessionPlaces.{call_other, call_own}

-- a session has made one call more in a later log, which waits or has its reply, and all others are as before
pub record OneCalled (waits : Bool) (session : ℕ) (log later : Log) : Type 0 where
  pub names : sessions later ≡ sessions log
  pub own : session_in later session ≡ called waits (session_in log session)
  pub other : (n : ℕ) → (session == n) ≡ false → session_in later n ≡ session_in log n
  pub long : length (calls later) ≡ length (calls log) + 1

-- ---- what is kept

-- the place of a session is the one before its number
place_of : (session sessions : ℕ) → IsNumberOf sessions session → session - 1 + 1 ≡ session
place_of session sessions number = (let first = number.from_one in omega (arith, first))

-- the session is that of the log
pub own_session : (k : Kept) (log : Log) (session sessions : ℕ) → IsNumberOf sessions session → HasSessions k log
    → session_at k.sessions (session - 1) ≡ session_in log session
own_session k log session sessions number s = s.each (session - 1) ∙ ap (session_in log) (place_of session sessions number)

-- so its next call is the one after those that it made
pub next_number : (k : Kept) (log : Log) (session sessions : ℕ) → IsNumberOf sessions session → HasSessions k log
    → next_call k session ≡ calls_made log session + 1
next_number k log session sessions number s = ap (λ own. own.calls + 1) (own_session k log session sessions number s)

-- the sessions that are kept are those of the later log
pub called_sessions : (waits : Bool) (session : ℕ) (k : Kept) (log later : Log) → IsWithin k → IsNumberOf (length k.names) session
    → HasSessions k log → OneCalled waits session log later → HasSessions (calling waits session k) later
called_sessions waits session k log later w number s one = record {
  names = s.names ∙ sym one.names;
  each = λ place.
      elim (cases_Bool (session == (place + 1))) [
        | inl same ↦
            let is = eqb-true session (place + 1) same in
            let here : session - 1 ≡ place = omega (arith, is) in
            ap (session_at (with_call waits session k.sessions)) (sym here)
            ∙ (call_own waits session k.sessions (subst (λ n. IsNumberOf n session) (sym w.paired) number)
            ∙ (ap (called waits) (own_session k log session (length k.names) number s) ∙ (sym one.own ∙ ap (session_in later) is)))
        | inr other ↦
            call_other waits session k.sessions place
            (λ here. both_ways (session == (place + 1)) other
            (eq-eqb session (place + 1) (sym (place_of session (length k.names) number) ∙ ap (λ n. n + 1) here)))
            ∙ (s.each place ∙ sym (one.other (place + 1) other))
      ];
  calls = ap (λ n. n + 1) s.calls ∙ sym one.long;
}

-- ---- logs

-- a number is itself
own_number : (session : ℕ) → (session == session) ≡ true
own_number session = eq-eqb session session refl

-- a command is queued
pub queue_called : (log : Log) (session : ℕ) (statement : Statement) → Legal (Queue session (calls_made log session + 1) statement ∷ log)
    → OneCalled true session log (Queue session (calls_made log session + 1) statement ∷ log)
queue_called log session statement l =
    let call = calls_made log session + 1 in record {
      names = refl;
      own = λ i. record {
        calls = (queue_made log session call statement session ∙ cond-true _ _ _ (own_number session)) i;
        outstanding = (queue_waits log session call statement l session ∙ cond-true _ _ _ (own_number session)) i;
      };
      other = λ n e. λ i. record {
        calls = (queue_made log session call statement n ∙ cond-false _ _ _ e) i;
        outstanding = (queue_waits log session call statement l n ∙ cond-false _ _ _ e) i;
      };
      long = queue_long log session call statement;
    }

-- a query is read
pub read_called : (log : Log) (session peek time : ℕ) (statement : Statement) (collection : ℕ)
    → Legal (Read session (calls_made log session + 1) peek time statement collection ∷ log)
    → OneCalled true session log (Read session (calls_made log session + 1) peek time statement collection ∷ log)
read_called log session peek time statement collection l =
    let call = calls_made log session + 1 in record {
      names = refl;
      own = λ i. record {
        calls = (read_made log session call peek time statement collection session ∙ cond-true _ _ _ (own_number session)) i;
        outstanding = (read_waits log session call peek time statement collection l session ∙ cond-true _ _ _ (own_number session)) i;
      };
      other = λ n e. λ i. record {
        calls = (read_made log session call peek time statement collection n ∙ cond-false _ _ _ e) i;
        outstanding = (read_waits log session call peek time statement collection l n ∙ cond-false _ _ _ e) i;
      };
      long = read_long log session call peek time statement collection;
    }

-- a call is refused
pub refused_called : (log : Log) (session : ℕ) (text : List ℕ) (refusal : Refusal)
    → Legal (Refused session (calls_made log session + 1) text refusal ∷ log) → outstanding log session ≡ None
    → OneCalled false session log (Refused session (calls_made log session + 1) text refusal ∷ log)
refused_called log session text refusal l none =
    let call = calls_made log session + 1 in record {
      names = refl;
      own = λ i. record {
        calls = (refused_made log session call text refusal l none session ∙ cond-true _ _ _ (own_number session)) i;
        outstanding = (refused_waits log session call text refusal l none session ∙ none) i;
      };
      other = λ n e. λ i. record {
        calls = (refused_made log session call text refusal l none n ∙ cond-false _ _ _ e) i;
        outstanding = refused_waits log session call text refusal l none n i;
      };
      long = refused_long log session call text refusal l none;
    }
