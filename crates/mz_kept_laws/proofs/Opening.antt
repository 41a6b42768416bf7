-- A session is opened, or why it isn't.
use Rattle.std.proofs.Common.{◌≡◌, ℕ, ◌+◌, ◌<◌, ◌≤◌, true, false, List, [], ◌∷◌, Ok, Err, bytes_eq, length, nat_le, refl, sym, ap, subst, ◌∙◌, arith}
use Rattle.std.specs.List.{list_any}
use Rattle.std.proofs.lemmas.Bool.{false_from_ne_true, le-leb, leb-true}
use Rattle.std.proofs.lemmas.List.{length-append}
use Rattle.mz_refusal.specs.declared.refusal.Limited.TheVariants.{Sessions}
use Rattle.mz_refusal.specs.declared.refusal.Refusal.{Refusal}
use Rattle.mz_refusal.specs.declared.refusal.Refusal.TheVariants as refusal
use Rattle.mz_resolution.specs.Steps.{Step, ◌>>=◌}
use Rattle.mz_log.specs.Log.{Log}
use Rattle.mz_log.specs.declared.entry.Entry.{Entry}
use Rattle.mz_log.specs.declared.entry.Entry.TheVariants.{Opened}
use Rattle.mz_books.specs.Answer.{refused_if}
use Rattle.mz_books.specs.Entries.{after}
use Rattle.mz_books.specs.Given.{Did, gives_or_refuses, opening_given}
use Rattle.mz_books.specs.Legal.{most_sessions}
use Rattle.mz_books.specs.Owed.{called_for}
use Rattle.mz_books.specs.Sessions.{sessions}
use Rattle.mz_script_laws.proofs.PlainAnswers.{goes_on}
use Rattle.mz_kept.specs.Kept.{Kept}
use Rattle.mz_kept.specs.Standing.{StandsFor}
use Rattle.mz_kept.specs.Steps.{opened}
use Rattle.mz_kept_laws.proofs.Entries.{open_stands}

-- a step that meets a refusal
step_refused : {A : Type 0} (log : Log) (step : Step (Entry × A)) (why : Refusal) (Now : Log → Type 0) → step ≡ Err why → Now log
    → Did log (gives_or_refuses log step) (Err why) Now
step_refused log step why Now is now = subst (λ s. Did log (gives_or_refuses log s) (Err why) Now) (sym is) (record { is = refl; now = now })

-- and one that gives an entry
step_given : {A : Type 0} (log : Log) (step : Step (Entry × A)) (entry : Entry) (answer : A) (Now : Log → Type 0) → step ≡ Ok (entry, answer)
    → Now (after (called_for log entry) (entry ∷ log)) → Did log (gives_or_refuses log step) (Ok answer) Now
step_given log step entry answer Now is now =
    subst (λ s. Did log (gives_or_refuses log s) (Ok answer) Now) (sym is) (record { is = refl; now = now })

-- the name is that of a session
pub taken_did : (k : Kept) (log : Log) (name : List ℕ) → StandsFor k log → list_any (bytes_eq name) k.names ≡ true
    → Did log (opening_given log name) (Err (refusal.NameTaken name)) (StandsFor k)
taken_did k log name s taken =
    step_refused log _ (refusal.NameTaken name) (StandsFor k)
    (ap (λ b. refused_if b (refusal.NameTaken name)
    >>= λ _. (refused_if (nat_le most_sessions (length (sessions log))) (refusal.TooMany Sessions most_sessions)
    >>= λ _. Ok (Opened name, length (sessions log) + 1)))
    (ap (list_any (bytes_eq name)) (sym s.sessions.names) ∙ taken)) s

-- there are as many sessions as there may be
pub many_did : (k : Kept) (log : Log) (name : List ℕ) → StandsFor k log → list_any (bytes_eq name) k.names ≡ false
    → most_sessions ≤ length k.names → Did log (opening_given log name) (Err (refusal.TooMany Sessions most_sessions)) (StandsFor k)
many_did k log name s new many =
    step_refused log _ (refusal.TooMany Sessions most_sessions) (StandsFor k)
    (goes_on (list_any (bytes_eq name) (sessions log)) (refusal.NameTaken name) _ (ap (list_any (bytes_eq name)) (sym s.sessions.names) ∙ new)
    ∙ ap (λ b. refused_if b (refusal.TooMany Sessions most_sessions) >>= λ _. Ok (Opened name, length (sessions log) + 1))
    (le-leb most_sessions (length (sessions log)) (subst (λ names. most_sessions ≤ length names) s.sessions.names many))) s

-- else one is opened
pub opened_did : (k new : Kept) (log : Log) (name : List ℕ) (number : ℕ) → StandsFor k log → list_any (bytes_eq name) k.names ≡ false
    → length k.names < most_sessions → new ≡ opened name k → number ≡ length new.names
    → Did log (opening_given log name) (Ok number) (StandsFor new)
opened_did k new log name number s is_new room is own =
    let few : length (sessions log) < most_sessions = subst (λ names. length names < most_sessions) s.sessions.names room in
    let fresh = ap (list_any (bytes_eq name)) (sym s.sessions.names) ∙ is_new in
    let number_is : number ≡ length (sessions log) + 1
    = own ∙ ap (λ after. length after.names) is ∙ length-append k.names (name ∷ []) ∙ ap (λ names. length names + 1) s.sessions.names in
    step_given log _ (Opened name) number (StandsFor new)
    (goes_on (list_any (bytes_eq name) (sessions log)) (refusal.NameTaken name) _ fresh
    ∙ (goes_on (nat_le most_sessions (length (sessions log))) (refusal.TooMany Sessions most_sessions) _
    (false_from_ne_true (nat_le most_sessions (length (sessions log)))
    (λ full. let over = leb-true most_sessions (length (sessions log)) full in omega (arith, over, few)))
    ∙ ap (λ n. Ok (Opened name, n)) (sym number_is)))
    (subst (λ after. StandsFor after (Opened name ∷ log)) (sym is) (open_stands k log name s (record { new_name = fresh; room = few })))
