-- The sessions of a log in which some have the replies to their calls.
use Rattle.std.proofs.Common.{◌≡◌, ℕ, ◌+◌, ◌==◌, Bool, true, false, cond, List, None, length, refl, sym, ap, subst, ◌∙◌}
use Rattle.std.specs.List.{AllByRecursion as Each, list_any}
use Rattle.mz_log.specs.Log.{Log}
use Rattle.mz_books.specs.Calls.{calls}
use Rattle.mz_books.specs.Sessions.{calls_made, outstanding, sessions}
use Rattle.mz_kept.specs.declared.session.Session.{Session}
use Rattle.mz_kept.specs.Kept.{Kept}
use Rattle.mz_kept.specs.Standing.{HasSessions, session_in}
use Rattle.mz_kept.specs.Steps.{session_at, with_replies}
use Rattle.mz_core.specs.Told.{IsNumberOf}
use Rattle.mz_kept.specs.Within.{IsWithin}
use Rattle.mz_kept_laws.proofs.SessionPlaces.{is_told, replies_at, told_if}

-- the sessions of these numbers have their replies in a later log, and all else of sessions is as before
pub record AllReplied (numbers : List ℕ) (log later : Log) : Type 0 where
  pub names : sessions later ≡ sessions log
  pub made : (session : ℕ) → calls_made later session ≡ calls_made log session
  pub waits : (session : ℕ) → outstanding later session ≡ cond (list_any (λ n. n == session) numbers) None (outstanding log session)
  pub long : length (calls later) ≡ length (calls log)

-- a session with its reply is the same but for its outstanding call
told_parts : (told : Bool) (session : Session)
    → told_if told session ≡ record { calls = session.calls; outstanding = cond told None session.outstanding }
told_parts true session = refl
told_parts false session = refl

-- the sessions that are kept are those of the later log
pub replied_at : (numbers : List ℕ) (k : Kept) (log later : Log) → IsWithin k → Each (IsNumberOf (length k.names)) numbers
    → HasSessions k log → AllReplied numbers log later → (place : ℕ) → session_at (with_replies k.sessions numbers) place ≡ session_in later (place + 1)
replied_at numbers k log later w within s replied place =
    replies_at numbers k.sessions place (subst (λ n. Each (IsNumberOf n) numbers) (sym w.paired) within)
    ∙ (ap (told_if (is_told numbers place)) (s.each place)
    ∙ (told_parts (is_told numbers place) (session_in log (place + 1)) ∙ (λ i. record {
      calls = sym (replied.made (place + 1)) i;
      outstanding = sym (replied.waits (place + 1)) i;
    })))
