-- Sessions that are opened, and sessions that were.
use Rattle.std.proofs.Common.{◌≡◌, ◌∙◌, ℕ, ◌+◌, Bool, true, false, List, [], ◌∷◌, ◌++◌, None, Ok, length, bytes_eq, position, nat_le, ap, sym, subst, arith}
use Rattle.std.proofs.lemmas.List.{length-append}
use Rattle.std.specs.List.{list_any}
use Rattle.mz_grammar.specs.declared.asked.Asked.{Asked}
use Rattle.mz_refusal.specs.declared.refusal.Limited.TheVariants.{Sessions}
use Rattle.mz_refusal.specs.declared.refusal.Refusal.{Refusal}
use Rattle.mz_refusal.specs.declared.refusal.Refusal.TheVariants.{NameTaken, TooMany}
use Rattle.mz_resolution.specs.Steps.{◌>>=◌}
use Rattle.mz_log.specs.declared.entry.Entry.TheVariants.{Opened}
use Rattle.mz_log.specs.Log.{Log}
use Rattle.mz_books.specs.Answer.{refused_if}
use Rattle.mz_books.specs.Entries.{after}
use Rattle.mz_books.specs.Given.{Did, Given, gives_or_refuses, opening_given}
use Rattle.mz_books.specs.Legal.{most_sessions}
use Rattle.mz_books.specs.Sessions.{sessions}
use Rattle.mz_script.specs.Script.{opened_says, session_place, session_says, submits}
use Rattle.mz_script.specs.ScriptLine.{Machine, with_log}
use Rattle.mz_shell.specs.Carrier.{DidLines}
use Rattle.mz_core.specs.Told.{IsNumberOf}

-- ---- what is given

-- what is given where the name is taken or not, and there are as many sessions as there may be or not
abbrev opening_in : Log → List ℕ → Bool → Bool → Given ℕ Refusal
opening_in log name taken full = gives_or_refuses log (do
  _ ← refused_if taken (NameTaken name)
  _ ← refused_if full (TooMany Sessions most_sessions)
  Ok (Opened name, length (sessions log) + 1))

-- a session that is opened is the last one
opened_in : (log : Log) (name : List ℕ) (session : ℕ) (taken full : Bool) → (opening_in log name taken full).answer ≡ Ok session
    → IsNumberOf (length (sessions (after (opening_in log name taken full).entries log))) session
opened_in log name session true full is = absurd (cc)
opened_in log name session false true is = absurd (cc)
opened_in log name session false false is =
    let same : length (sessions log) + 1 ≡ session = cc in
    let more : length (sessions log ++ name ∷ []) ≡ length (sessions log) + 1 = length-append (sessions log) (name ∷ []) in
    record { from_one = omega (arith, same); there = omega (arith, same, more) }

pub opened_number : (log : Log) (name : List ℕ) (session : ℕ) → (opening_given log name).answer ≡ Ok session
    → IsNumberOf (length (sessions (after (opening_given log name).entries log))) session
opened_number log name session is =
    opened_in log name session (list_any (bytes_eq name) (sessions log)) (nat_le most_sessions (length (sessions log))) is

-- ---- what is said

-- none was, and one was opened now
pub opened_carried : (Middle : Machine → Type 0) {Now : Machine → Type 0} (machine : Machine) (names : List (List ℕ)) (name said before now : List ℕ) (asked : Asked)
    (session : ℕ) → names ≡ sessions machine.log → position (bytes_eq name) names ≡ None
    → Did machine.log (opening_given machine.log name) (Ok session) (λ log. Middle (with_log machine log))
    → ((opened : Machine) → Middle opened → DidLines Now before now (submits name session said asked opened))
    → DidLines Now before now (session_says machine name said asked (session_place machine.log name))
opened_carried Middle {Now = Now} machine names name said before now asked session known none did next =
    let given = opening_given machine.log name in
    subst (λ own. DidLines Now before now (session_says machine name said asked own))
    (sym (ap (position (bytes_eq name)) (sym known) ∙ none))
    (subst (λ told. DidLines Now before now (opened_says machine name said asked given told)) (sym did.is) (next _ did.now))
