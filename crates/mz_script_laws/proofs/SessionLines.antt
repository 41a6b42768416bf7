-- A machine stays at rest as sessions say texts.
use Rattle.std.specs.Prelude.{bytes_eq}
use Rattle.std.proofs.Common.{◌≡◌, ℕ, ◌+◌, ◌<◌, Bool, true, false, List, [], ◌∷◌, length, nat_le, nat_lt, position, Option, None, Some, Ok, Err, refl, sym, ◌∙◌, inl, inr, arith, length-append}
use Rattle.std.specs.List.{list_any, position_or_len}
use Rattle.std.proofs.lemmas.Bool.{cases_Bool, cond-false, cond-true, leb-false, ltb-true}
use Rattle.mz_grammar.specs.Asked.{IsAsked}
use Rattle.mz_grammar.specs.declared.asked.Asked.{Asked}
use Rattle.mz_refusal.specs.declared.refusal.Limited.TheVariants.{Sessions}
use Rattle.mz_refusal.specs.declared.refusal.Refusal.{Refusal}
use Rattle.mz_refusal.specs.declared.refusal.Refusal.TheVariants as refusal
use Rattle.mz_resolution.specs.Steps.{Step, ◌>>=◌}
use Rattle.mz_log.specs.declared.entry.Entry.{Entry}
use Rattle.mz_log.specs.declared.entry.Entry.TheVariants.{Opened, Absorbed, Crash}
use Rattle.mz_log.specs.Log.{Log}
use Rattle.mz_books.specs.Answer.{answer, refused_if}
use Rattle.mz_books.specs.Given.{Given, gives_or_refuses}
use Rattle.mz_books.specs.Legal.{MayCall, MayOpen, most_sessions}
use Rattle.mz_books.specs.Sessions.{IsOpened, calls_made, sessions}
use Rattle.mz_laws.proofs.Accepted.{answer_follows, call_of, next_call}
use Rattle.mz_script.specs.Script.{answered, opened_says, session_place, session_says, submits}
use Rattle.mz_script.specs.ScriptLine.{Machine, with_log}
use Rattle.mz_script_laws.specs.Rest.{IsAtRest}
use Rattle.mz_script_laws.proofs.Calm.{IsCalm}
use Rattle.mz_script_laws.proofs.Resting.{rests_event}

-- ---- a session that is open

-- the entry of a call is calm
calm_call : (entry : Entry) (call : ℕ × ℕ) → call_of entry ≡ Some call → IsCalm entry
calm_call (Absorbed replica incarnation turn taken ready frontiers) call e = absurd (cc)
calm_call (Crash replica) call e = absurd (cc)
calm_call entry call e = tt

-- a submission, however it is answered
answered_rests : (machine : Machine) (name : List ℕ) (session : ℕ) (text : List ℕ) (asked : Asked) (step : Step Entry) → IsOpened machine.log session
    → IsAsked text asked → answer machine.log session text asked ≡ step → IsAtRest machine → IsAtRest (answered machine name step).machine
answered_rests machine name session text asked (Err refusal) opened asks is rest = rest
answered_rests machine name session text asked (Ok entry) opened asks is rest =
    let may : MayCall machine.log session entry = record { opened = opened; text = text; asked = asked; asks = asks; answered = is } in
    rests_event machine entry (calm_call entry (session, calls_made machine.log session + 1) (next_call machine.log session entry may))
    (answer_follows machine.log session text asked entry opened asks is) rest

-- so it is with each
pub submits_rests : (machine : Machine) (name : List ℕ) (session : ℕ) (text : List ℕ) (asked : Asked) → IsOpened machine.log session
    → IsAsked text asked → IsAtRest machine → IsAtRest (submits name session text asked machine).machine
submits_rests machine name session text asked opened asks rest =
    answered_rests machine name session text asked (answer machine.log session text asked) opened asks refl rest

-- ---- a session that is opened

-- what a log gives an opening, by whether the name is taken and whether there are as many sessions as there may be
abbrev pub opening_by : Log → List ℕ → Bool → Bool → Given ℕ Refusal
opening_by log name taken full =
    gives_or_refuses log (refused_if taken (refusal.NameTaken name) >>= λ _. refused_if full (refusal.TooMany Sessions most_sessions)
    >>= λ _. Ok (Opened name, length (sessions log) + 1))

-- the session that is opened is
is_opened : (log : Log) (name : List ℕ) → IsOpened (Opened name ∷ log) (length (sessions log) + 1)
is_opened log name = record { from_one = omega arith; there = omega (arith, length-append (sessions log) (name ∷ [])) }

-- and may be
may_open : (log : Log) (name : List ℕ) → list_any (bytes_eq name) (sessions log) ≡ false → nat_le most_sessions (length (sessions log)) ≡ false
    → MayOpen log name
may_open log name new room = record { new_name = new; room = leb-false most_sessions (length (sessions log)) room }

-- by whether it is
opened_rests : (machine : Machine) (name text : List ℕ) (asked : Asked) (taken full : Bool)
    → list_any (bytes_eq name) (sessions machine.log) ≡ taken → nat_le most_sessions (length (sessions machine.log)) ≡ full → IsAsked text asked
    → IsAtRest machine
    → IsAtRest (opened_says machine name text asked (opening_by machine.log name taken full) (opening_by machine.log name taken full).answer).machine
opened_rests machine name text asked true full is also asks rest = rest
opened_rests machine name text asked false true is also asks rest = rest
opened_rests machine name text asked false false is also asks rest =
    submits_rests (with_log machine (Opened name ∷ machine.log)) name (length (sessions machine.log) + 1) text asked (is_opened machine.log name) asks
    (rests_event machine (Opened name) tt (may_open machine.log name is also) rest)

-- ---- either

-- a place at which a test passes is one of the list
pub place_within : (test : List ℕ → Bool) (names : List (List ℕ)) (place : ℕ) → position test names ≡ Some place → place < length names
place_within test names place e = elim (cases_Bool (nat_lt (position_or_len test names) (length names))) [
  | inl h ↦
      let is : Some (position_or_len test names) ≡ Some place = sym (cond-true _ _ _ h) ∙ e in
      let same : position_or_len test names ≡ place = cc in
      let less = ltb-true (position_or_len test names) (length names) h in omega (arith, less, same)
  | inr h ↦ absurd (let is : None ≡ Some place = sym (cond-false _ _ _ h) ∙ e in cc)
]

-- by whether the session is there
says_rests : (machine : Machine) (name text : List ℕ) (asked : Asked) (place : Option ℕ) → session_place machine.log name ≡ place
    → IsAsked text asked → IsAtRest machine → IsAtRest (session_says machine name text asked place).machine
says_rests machine name text asked None is asks rest =
    opened_rests machine name text asked (list_any (bytes_eq name) (sessions machine.log)) (nat_le most_sessions (length (sessions machine.log))) refl
    refl asks rest
says_rests machine name text asked (Some place) is asks rest =
    let within = place_within (bytes_eq name) (sessions machine.log) place is in
    submits_rests machine name (place + 1) text asked (record { from_one = omega arith; there = omega (arith, within) }) asks rest

-- a session says a text that asks for something
pub session_rests : (machine : Machine) (name text : List ℕ) (asked : Asked) → IsAsked text asked → IsAtRest machine
    → IsAtRest (session_says machine name text asked (session_place machine.log name)).machine
session_rests machine name text asked asks rest =
    says_rests machine name text asked (session_place machine.log name) refl asks rest
