-- An event: an entry that may follow, and all that it calls for.
use Rattle.std.proofs.Common.{◌≡◌, ℕ, ◌+◌, List, [], ◌∷◌, ◌++◌, refl, sym, ap, ◌∙◌, subst}
use Rattle.std.proofs.lemmas.List.{append-nil}
use Rattle.mz_log.specs.declared.entry.Entry.{Entry}
use Rattle.mz_log.specs.declared.entry.Entry.TheVariants.{Finish, Acquire, Release}
use Rattle.mz_log.specs.Log.{Log}
use Rattle.mz_books.specs.Entries.{after}
use Rattle.mz_books.specs.Holds.{holds_taken, rest}
use Rattle.mz_books.specs.Owed.{IsInTurn, called_for, event, owed}
use Rattle.mz_books.specs.Legal.{Legal, MayFollow}
use Rattle.mz_event_laws.proofs.Due.{AreDue}
use Rattle.mz_event_laws.proofs.Owed.{owed_due, owed_follows}

-- the log is legal, and owes nothing
pub record IsWhole (log : Log) : Type 0 where
  pub legal : Legal log
  pub none : owed log ≡ []

-- what is due calls for nothing more
calls_none : (log : Log) (next : ℕ) (entry : Entry) (later : List Entry) → AreDue log next (entry ∷ later) → called_for log entry ≡ []
calls_none log next (Acquire hold collection time) later p = refl
calls_none log next (Finish peek rows) later p = refl
calls_none log next (Release hold) later p = refl
calls_none log next entry later p = absurd p

-- a legal log is whole once all that it owes has come
completed : (es : List Entry) (log : Log) → Legal log → owed log ≡ es → IsWhole (after es log)
completed [] log l is = record { legal = l; none = is }
completed (entry ∷ later) log l is =
    let due : AreDue log (holds_taken log + 1) (entry ∷ later) = subst (AreDue log (holds_taken log + 1)) is (owed_due log l) in
    let turn : IsInTurn (owed log) entry = subst (λ es. IsInTurn es entry) (sym is) refl in
    completed later (entry ∷ log) (l, record { may = owed_follows log entry later l is; in_turn = turn })
    (ap (λ es. rest es ++ called_for log entry) is
    ∙ ap (λ es. later ++ es) (calls_none log (holds_taken log + 1) entry later due) ∙ append-nil later)

-- so is each event
pub event_whole : (log : Log) (entry : Entry) → Legal log → owed log ≡ [] → MayFollow log entry → IsWhole (event log entry)
event_whole log entry l none may =
    completed (called_for log entry) (entry ∷ log)
    (l, record { may = may; in_turn = subst (λ es. IsInTurn es entry) (sym none) tt })
    (ap (λ es. rest es ++ called_for log entry) none)
