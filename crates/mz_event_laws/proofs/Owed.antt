-- What is owed is due, so the first of it may follow.
use Rattle.std.proofs.Common.{◌≡◌, ℕ, ◌+◌, ◌==◌, ◌&&◌, ◌++◌, true, List, [], ◌∷◌, sym, ◌∙◌, subst, inl, inr, arith}
use Rattle.std.specs.List.{AllByRecursion as Each, list_any}
use Rattle.std.proofs.lemmas.Bool.{and_parts, eqb-true, false≢true, or_cases}
use Rattle.std.proofs.lemmas.List.{append-nil}
use Rattle.mz_time.specs.Frontier.{Le}
use Rattle.mz_time.specs.declared.frontier.Frontier.TheVariants.{At}
use Rattle.mz_rules.specs.declared.capability.Collection.{Collection}
use Rattle.mz_log.specs.declared.entry.Entry.{Entry}
use Rattle.mz_log.specs.declared.entry.Entry.TheVariants.{Finish, Acquire, Release}
use Rattle.mz_log.specs.Log.{Log}
use Rattle.mz_books.specs.Rounds.{read_time}
use Rattle.mz_books.specs.Collections.{collections, is_in_catalog}
use Rattle.mz_books.specs.Holds.{holds_taken, rest}
use Rattle.mz_books.specs.Since.{kept, since}
use Rattle.mz_books.specs.Owed.{IsInTurn, called_for, owed}
use Rattle.mz_books.specs.Legal.{Legal, MayFollow}
use Rattle.mz_safe_laws.proofs.Building.{present_before}
use Rattle.mz_safe_laws.proofs.Sound.{sound}
use Rattle.mz_event_laws.proofs.CalledFor.{called_due}
use Rattle.mz_event_laws.proofs.Due.{AreDue, IsThere}
use Rattle.mz_event_laws.proofs.StillDue.{after_acquire, after_finish, after_release}

-- the others are due once the first has come
next_due : (log : Log) (entry : Entry) (later : List Entry) → AreDue log (holds_taken log + 1) (entry ∷ later)
    → AreDue (entry ∷ log) (holds_taken (entry ∷ log) + 1) (later ++ called_for log entry)
next_due log (Acquire hold collection time) later p =
    subst (AreDue (Acquire hold collection time ∷ log) (holds_taken log + 1 + 1)) (sym (append-nil later))
    (after_acquire log hold collection time (holds_taken log + 1 + 1) later p.3)
next_due log (Finish peek rows) later p =
    subst (AreDue (Finish peek rows ∷ log) (holds_taken log + 1)) (sym (append-nil later))
    (after_finish log peek rows (holds_taken log + 1) later p.2 p.3)
next_due log (Release hold) later p =
    subst (AreDue (Release hold ∷ log) (holds_taken log + 1)) (sym (append-nil later))
    (after_release log hold (holds_taken log + 1) later p.1 p.2)
next_due log entry later p = absurd p

-- so it is with what was owed before
due_after : (log : Log) (entry : Entry) → Legal (entry ∷ log) → (es : List Entry) → IsInTurn es entry → AreDue log (holds_taken log + 1) es
    → AreDue (entry ∷ log) (holds_taken (entry ∷ log) + 1) (rest es ++ called_for log entry)
due_after log entry l [] turn p = called_due log entry l
due_after log entry l (next ∷ later) turn p =
    next_due log entry later (subst (λ first. AreDue log (holds_taken log + 1) (first ∷ later)) (sym turn) p)

-- what a legal log owes is due
pub owed_due : (log : Log) → Legal log → AreDue log (holds_taken log + 1) (owed log)
owed_due [] l = tt
owed_due (entry ∷ log) l = due_after log entry l (owed log) l.1.in_turn (owed_due log l.0)

-- what holds of each collection of the catalog holds of one by its number
of_there : (P : ℕ → Type 0) (number : ℕ) (cs : List Collection) → Each (λ c. is_in_catalog c ≡ true → P c.number) cs → IsThere number cs
    → P number
of_there P number [] p e = absurd (false≢true e)
of_there P number (c ∷ cs) p e =
    elim (or_cases ((c.number == number) && is_in_catalog c) (list_any (λ d. (d.number == number) && is_in_catalog d) cs) e) [
      | inl own ↦
          let parts = and_parts (c.number == number) (is_in_catalog c) own in
          subst P (eqb-true c.number number parts.0) (p.0 parts.1)
      | inr later ↦ of_there P number cs p.1 later
    ]

-- a collection of the catalog is readable at the read time
pub readable_now : (log : Log) → Legal log → (number : ℕ) → IsThere number (collections log) → Le (since log number) (At (read_time log))
readable_now log l number there =
    of_there (λ n. Le (since log n) (At (read_time log))) number (collections log)
    (present_before (At 0) (read_time log) (read_time log) (collections log) (kept log) (omega arith) (sound log l).core) there

-- some is owed
not_none : {P : Type 0} (entry : Entry) (later : List Entry) → entry ∷ later ≡ [] → P
not_none entry later e = absurd (cc)

-- the first that is due may follow
due_follows : (log : Log) (entry : Entry) (later : List Entry) → Legal log → owed log ≡ entry ∷ later
    → AreDue log (holds_taken log + 1) (entry ∷ later) → MayFollow log entry
due_follows log (Acquire hold collection time) later l is p = record {
  next_hold = p.0;
  present = p.2;
  at_since = subst (λ t. Le (since log collection) (At t)) (sym p.1) (readable_now log l collection p.2);
  readable = omega (arith, p.1);
}
due_follows log (Finish peek rows) later l is p = record { waits = p.0; own_rows = p.1 }
due_follows log (Release hold) later l is p =
    record { live = p.0; free = λ none. not_none (Release hold) later (sym is ∙ none) }
due_follows log entry later l is p = absurd p

-- so the first that is owed may follow
pub owed_follows : (log : Log) (entry : Entry) (later : List Entry) → Legal log → owed log ≡ entry ∷ later → MayFollow log entry
owed_follows log entry later l is =
    due_follows log entry later l is (subst (AreDue log (holds_taken log + 1)) is (owed_due log l))
