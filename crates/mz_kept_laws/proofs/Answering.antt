-- What a session is answered: the log gives it that, and the core stands for the log with it.
use Rattle.std.proofs.Common.{◌≡◌, ℕ, ◌+◌, ◌-◌, ◌<◌, ◌≤◌, true, List, ◌∷◌, None, Some, Ok, Err, length, nat_le, refl, sym, ap, subst, ◌∙◌, arith}
use Rattle.std.proofs.lemmas.Bool.{false_from_ne_true, leb-true}
use Rattle.mz_grammar.specs.declared.asked.Asked.{Asked}
use Rattle.mz_refusal.specs.declared.refusal.Limited.TheVariants.{Calls}
use Rattle.mz_refusal.specs.declared.refusal.Refusal.{Refusal}
use Rattle.mz_refusal.specs.declared.refusal.Refusal.TheVariants as refusal
use Rattle.mz_resolution.specs.Steps.{◌>>=◌}
use Rattle.mz_log.specs.Log.{Log}
use Rattle.mz_log.specs.declared.entry.Entry.{Entry}
use Rattle.mz_books.specs.Answer.{accepted_text, answer, busy, call_entry, form_of, most_calls, refused_if}
use Rattle.mz_books.specs.Calls.{calls}
use Rattle.mz_books.specs.Entries.{after}
use Rattle.mz_books.specs.Given.{Did, gives_or_refuses}
use Rattle.mz_books.specs.Owed.{called_for}
use Rattle.mz_books.specs.Sessions.{IsOpened, calls_made, outstanding}
use Rattle.mz_books.specs.Situation.{situation}
use Rattle.mz_script_laws.specs.Plain.{IsPlainLog}
use Rattle.mz_script_laws.proofs.PlainAnswers.{answers_plainly, goes_on}
use Rattle.mz_core.specs.declared.calls.Submitted.{Submitted}
use Rattle.mz_kept.specs.Kept.{Kept}
use Rattle.mz_kept.specs.Standing.{StandsFor}
use Rattle.mz_kept.specs.Steps.{session_at}
use Rattle.mz_core.specs.Told.{submitting_given, told_of, IsNumberOf}
use Rattle.mz_kept_laws.proofs.Calling.{own_session}

-- ---- from an answer to what is given

-- a session is answered with an entry
pub did_entry : (log : Log) (session : ℕ) (text : List ℕ) (asked : Asked) (entry : Entry) (told : Submitted) (Now : Log → Type 0)
    → answer log session text asked ≡ Ok entry → told_of entry ≡ Some told → Now (after (called_for log entry) (entry ∷ log))
    → Did log (submitting_given log session text asked) (Ok (Some told)) Now
did_entry log session text asked entry told Now is is_told now =
    subst (λ step. Did log (gives_or_refuses log (step >>= λ e. Ok (e, told_of e))) (Ok (Some told)) Now) (sym is)
    (record { is = ap Ok is_told; now = now })

-- or it makes no call
pub did_refuse : (log : Log) (session : ℕ) (text : List ℕ) (asked : Asked) (why : Refusal) (Now : Log → Type 0)
    → answer log session text asked ≡ Err why → Now log → Did log (submitting_given log session text asked) (Err why) Now
did_refuse log session text asked why Now is now =
    subst (λ step. Did log (gives_or_refuses log (step >>= λ e. Ok (e, told_of e))) (Err why) Now) (sym is)
    (record { is = refl; now = now })

-- ---- sessions

-- a session that is kept was opened
pub is_opened : (k : Kept) (log : Log) (session : ℕ) → StandsFor k log → IsNumberOf (length k.names) session → IsOpened log session
is_opened k log session s number = record {
  from_one = number.from_one;
  there = subst (λ names. session ≤ length names) s.sessions.names number.there;
}

-- its outstanding call is that of the log
pub waits_as : (k : Kept) (log : Log) (session : ℕ) → StandsFor k log → IsNumberOf (length k.names) session
    → (session_at k.sessions (session - 1)).outstanding ≡ outstanding log session
waits_as k log session s number = ap (λ own. own.outstanding) (own_session k log session (length k.names) number s.sessions)

-- ---- answers

-- a session that waits is busy
pub busy_did : (k : Kept) (log : Log) (session : ℕ) (text : List ℕ) (asked : Asked) (call : ℕ) → StandsFor k log
    → IsNumberOf (length k.names) session → (session_at k.sessions (session - 1)).outstanding ≡ Some call
    → Did log (submitting_given log session text asked) (Err (refusal.Busy call)) (StandsFor k)
busy_did k log session text asked call s number waits =
    did_refuse log session text asked (refusal.Busy call) (StandsFor k)
    (answers_plainly log session text asked s.plain
    ∙ ap (λ w. busy w >>= λ _. refused_if (nat_le most_calls (length (calls log))) (refusal.TooMany Calls most_calls)
    >>= λ _. Ok (call_entry session (calls_made log session + 1) (form_of text asked) (accepted_text (situation log session) session asked)))
    (sym (waits_as k log session s number) ∙ waits)) s

-- what is answered where a session waits for none
free_answer : (log : Log) (session : ℕ) (text : List ℕ) (asked : Asked) → IsPlainLog log → outstanding log session ≡ None
    → answer log session text asked
    ≡ (refused_if (nat_le most_calls (length (calls log))) (refusal.TooMany Calls most_calls)
    >>= λ _. Ok (call_entry session (calls_made log session + 1) (form_of text asked) (accepted_text (situation log session) session asked)))
free_answer log session text asked plain none =
    answers_plainly log session text asked plain
    ∙ ap (λ w. busy w >>= λ _. refused_if (nat_le most_calls (length (calls log))) (refusal.TooMany Calls most_calls)
    >>= λ _. Ok (call_entry session (calls_made log session + 1) (form_of text asked) (accepted_text (situation log session) session asked))) none

-- there are as many calls as there may be
pub crowded_did : (k : Kept) (log : Log) (session : ℕ) (text : List ℕ) (asked : Asked) → StandsFor k log
    → IsNumberOf (length k.names) session → (session_at k.sessions (session - 1)).outstanding ≡ None → nat_le most_calls k.calls ≡ true
    → Did log (submitting_given log session text asked) (Err (refusal.TooMany Calls most_calls)) (StandsFor k)
crowded_did k log session text asked s number none full =
    did_refuse log session text asked (refusal.TooMany Calls most_calls) (StandsFor k)
    (free_answer log session text asked s.plain (sym (waits_as k log session s number) ∙ none)
    ∙ ap (λ b. refused_if b (refusal.TooMany Calls most_calls)
    >>= λ _. Ok (call_entry session (calls_made log session + 1) (form_of text asked) (accepted_text (situation log session) session asked)))
    (ap (nat_le most_calls) (sym s.sessions.calls) ∙ full)) s

-- else it makes a call
pub call_answer : (k : Kept) (log : Log) (session : ℕ) (text : List ℕ) (asked : Asked) → StandsFor k log
    → outstanding log session ≡ None → k.calls < most_calls
    → answer log session text asked
    ≡ Ok (call_entry session (calls_made log session + 1) (form_of text asked) (accepted_text (situation log session) session asked))
call_answer k log session text asked s none room =
    free_answer log session text asked s.plain none
    ∙ goes_on (nat_le most_calls (length (calls log))) (refusal.TooMany Calls most_calls) _
    (ap (nat_le most_calls) (sym s.sessions.calls)
    ∙ false_from_ne_true (nat_le most_calls k.calls) (λ full. let over = leb-true most_calls k.calls full in omega (arith, over, room)))
