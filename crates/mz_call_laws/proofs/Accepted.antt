-- What the entry of a call says of its session.
use Rattle.std.proofs.Common.{◌≡◌, ℕ, ◌+◌, false, Ok, Err, Option, None, Some, nat_le, List, refl, IfOk}
use Rattle.std.specs.Prelude.{⊤}
use Rattle.mz_refusal.specs.declared.refusal.Limited.TheVariants.{Calls}
use Rattle.mz_refusal.specs.declared.refusal.Refusal.TheVariants as refusal
use Rattle.mz_resolution.specs.Steps.{Step}
use Rattle.mz_statement.specs.Kind.{kind_of}
use Rattle.mz_grammar.specs.declared.asked.Asked.{Asked}
use Rattle.mz_grammar.specs.declared.asked.Asked.TheVariants as asks
use Rattle.mz_log.specs.declared.entry.Entry.{Entry}
use Rattle.mz_log.specs.Log.{Log}
use Rattle.mz_books.specs.Answer.{accepted_text, answer, answer_in, busy, call_entry, form_of, most_calls, no_call}
use Rattle.mz_books.specs.Situation.{Situation, situation}
use Rattle.mz_books.specs.Legal.{MayCall}
use Rattle.mz_call_laws.proofs.Steps.{then_ok, past, past_last, given_ok}
use Rattle.mz_call_laws.proofs.Asking.{IsAnswer, accepted_is}

-- and of a text
text_is : (s : Situation) (session : ℕ) (asked : Asked) → IfOk (accepted_text s session asked) (IsAnswer s session)
text_is s session (asks.Statement statement) = accepted_is s session statement (kind_of statement) refl
text_is s session (asks.Syntax at) = tt
text_is s session (asks.LiteralRange at) = tt

-- a call's entry is that, or its refusal
entry_is : (s : Situation) (session : ℕ) (text : List ℕ) (step : Step Entry) → IfOk step (IsAnswer s session)
    → IsAnswer s session (call_entry session (s.calls_made + 1) text step)
entry_is s session text (Ok entry) h = h
entry_is s session text (Err refusal) h = record { own = refl; next = refl }

-- what is known of a call that is made: the session isn't closed, waits for none, and is answered so
pub record Made (s : Situation) (session : ℕ) (entry : Entry) : Type 0 where
  pub none_waits : s.outstanding ≡ None
  pub unclosed : s.closed ≡ false
  pub is : IsAnswer s session entry

-- a session that waits for none
not_busy : (waits : Option ℕ) (x : ⊤) → busy waits ≡ Ok x → waits ≡ None
not_busy None x e = refl
not_busy (Some call) x e = absurd (cc)

-- a session that may make a call
calls_ok : (s : Situation) → IfOk (no_call s) (λ _. (s.outstanding ≡ None) × (s.closed ≡ false))
calls_ok s =
    past s.closed refusal.Closed _ (λ _. (s.outstanding ≡ None) × (s.closed ≡ false))
    (λ unclosed. then_ok (busy s.outstanding) _ (λ _. (s.outstanding ≡ None) × (s.closed ≡ false))
    (λ x free. past_last (nat_le most_calls s.all_calls) (refusal.TooMany Calls most_calls) (λ _. (s.outstanding ≡ None) × (s.closed ≡ false))
    (not_busy s.outstanding x free, unclosed)))

-- so is each answer
answer_is : (s : Situation) (session : ℕ) (text : List ℕ) (asked : Asked) → IfOk (answer_in s session text asked) (Made s session)
answer_is s session text asked =
    then_ok (no_call s) _ (Made s session)
    (λ x none.
    let made = given_ok (no_call s) x (λ _. (s.outstanding ≡ None) × (s.closed ≡ false)) (calls_ok s) none in
    record {
      none_waits = made.0;
      unclosed = made.1;
      is = entry_is s session (form_of text asked) (accepted_text s session asked) (text_is s session asked);
    })

-- what the entry of each call says
pub made_is : (log : Log) (session : ℕ) (entry : Entry) → MayCall log session entry → Made (situation log session) session entry
unfolding answer
made_is log session entry may =
    given_ok (answer log session may.text may.asked) entry (Made (situation log session) session)
    (answer_is (situation log session) session may.text may.asked) may.answered
