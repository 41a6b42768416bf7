-- The holds that a BEGIN still has to take are what is owed.
use Rattle.std.proofs.Common.{◌≡◌, ℕ, ◌+◌, ◌⊎◌, Bool, true, false, List, [], ◌∷◌, ◌++◌, refl, sym, ap, ◌∙◌, subst, inl, inr}
use Rattle.std.proofs.lemmas.Bool.{false≢true}
use Rattle.std.proofs.lemmas.List.{append-nil}
use Rattle.mz_statement.specs.declared.statement.Statement.TheVariants.{Start}
use Rattle.mz_log.specs.declared.entry.Entry.{Entry}
use Rattle.mz_log.specs.declared.entry.Entry.TheVariants.{Instant, Acquire}
use Rattle.mz_log.specs.Log.{Log}
use Rattle.mz_books.specs.Collections.{collections}
use Rattle.mz_books.specs.Holds.{Taking, holds_taken, rest, takings, takings_of}
use Rattle.mz_books.specs.Owed.{IsInTurn, acquires, owed}
use Rattle.mz_books.specs.Legal.{Legal}
use Rattle.mz_event_laws.proofs.Due.{AreDue}
use Rattle.mz_event_laws.proofs.Owed.{owed_due}

-- holds that a BEGIN still has to take are what is owed
abbrev pub Started : Log → Type 0
Started log = (takings log ≡ []) ⊎ (owed log ≡ acquires (holds_taken log + 1) (takings log))

-- an entry that is never due follows only where nothing is owed
nothing_owed : (log : Log) (entry : Entry) (es : List Entry) → ((next : ℕ) (later : List Entry) → AreDue log next (entry ∷ later) → ⊥)
    → IsInTurn es entry → AreDue log (holds_taken log + 1) es → es ≡ []
nothing_owed log entry [] never turn d = refl
nothing_owed log entry (next ∷ later) never turn d =
    absurd (never (holds_taken log + 1) later (subst (λ e. AreDue log (holds_taken log + 1) (e ∷ later)) (sym turn) d))

-- one of them is taken
started_acquire : (log : Log) (hold collection time : ℕ) (ts : List Taking) → takings log ≡ ts → Started log
    → IsInTurn (owed log) (Acquire hold collection time) → Started (Acquire hold collection time ∷ log)
started_acquire log hold collection time [] e s turn = inl (ap rest e)
started_acquire log hold collection time (first ∷ ts) e (inl none) turn = inl (ap rest none)
started_acquire log hold collection time (first ∷ ts) e (inr o) turn =
    inr (ap (λ es. rest es ++ []) (o ∙ ap (acquires (holds_taken log + 1)) e)
    ∙ (append-nil (acquires (holds_taken log + 1 + 1) ts) ∙ ap (λ x. acquires (holds_taken log + 1 + 1) (rest x)) (sym e)))

-- so it is in each legal log
pub started : (log : Log) → Legal log → Started log
started [] l = inl refl
started (Instant session call Start time ∷ log) l =
    let none = nothing_owed log (Instant session call Start time) (owed log) (λ next later d. d) l.1.in_turn (owed_due log l.0) in
    inr (ap (λ es. rest es ++ acquires (holds_taken log + 1) (takings_of session time (collections log))) none)
started (Acquire hold collection time ∷ log) l = started_acquire log hold collection time (takings log) refl (started log l.0) l.1.in_turn
started (Instant session call statement time ∷ log) l = inl refl
started (entry ∷ log) l = inl refl

-- the entry takes a hold
abbrev pub is_acquire : Entry → Bool
is_acquire (Acquire hold collection time) = true
is_acquire entry = false

-- before an entry that takes none, none is to be taken
none_taking : (log : Log) (entry : Entry) (ts : List Taking) → takings log ≡ ts → Started log → IsInTurn (owed log) entry
    → is_acquire entry ≡ false → takings log ≡ []
none_taking log entry [] e s turn other = e
none_taking log entry (first ∷ ts) e (inl none) turn other = none
none_taking log entry (first ∷ ts) e (inr o) turn other =
    let is : entry ≡ Acquire (holds_taken log + 1) first.collection first.time =
    subst (λ es. IsInTurn es entry) (o ∙ ap (acquires (holds_taken log + 1)) e) turn in
    absurd (false≢true (sym other ∙ ap is_acquire is))

-- so it is where the entry may follow
pub no_taking : (log : Log) (entry : Entry) → Legal (entry ∷ log) → is_acquire entry ≡ false → takings log ≡ []
no_taking log entry l other = none_taking log entry (takings log) refl (started log l.0) l.1.in_turn other

-- where nothing is owed, none is to be taken
none_owed : (next : ℕ) (ts : List Taking) → acquires next ts ≡ [] → ts ≡ []
none_owed next [] e = refl
none_owed next (first ∷ ts) e = absurd (cc)

pub whole_takes_none : (log : Log) → Started log → owed log ≡ [] → takings log ≡ []
whole_takes_none log (inl none) e = none
whole_takes_none log (inr o) e = none_owed (holds_taken log + 1) (takings log) (sym o ∙ e)
