-- What is owed to be released was taken for sessions whose transactions have ended.
use Rattle.std.specs.Prelude.{⊤}
use Rattle.std.proofs.Common.{◌≡◌, ℕ, ◌+◌, ◌≤◌, ◌==◌, Bool, true, false, cond, not, List, [], ◌∷◌, ◌++◌, map, filter, Option, None, Some, refl, sym, ap, ◌∙◌, subst, inl, inr, arith}
use Rattle.std.specs.List.{AllByRecursion as Each, list_any}
use Rattle.std.specs.Option.{option_map_or}
use Rattle.std.proofs.lemmas.Bool.{cond-true, cond_both, eq-eqb, eqb-true, false≢true, or_cases}
use Rattle.std.proofs.lemmas.List.{append-nil}
use Rattle.mz_statement.specs.declared.statement.Statement.TheVariants.{Start, Commit}
use Rattle.mz_plan.specs.declared.command.PendingPeek.{PendingPeek}
use Rattle.mz_rules.specs.declared.capability.Hold.{Hold}
use Rattle.mz_rules.proofs.Each.{each_filter, each_of, each_one}
use Rattle.mz_log.specs.declared.entry.Entry.{Entry}
use Rattle.mz_log.specs.declared.entry.Entry.TheVariants.{Instant, Close, Acquire, Finish, Release, Absorbed}
use Rattle.mz_log.specs.Log.{Log}
use Rattle.mz_books.specs.Collections.{collections}
use Rattle.mz_books.specs.Holds.{Taking, holds, holds_taken, pending, rest, takings_of, transaction}
use Rattle.mz_books.specs.Owed.{IsInTurn, acquires, answers_of, called_for, is_answered, is_owned_by, owed, peek_rows, releases}
use Rattle.mz_books.specs.Legal.{Legal, MayFollow}
use Rattle.mz_event_laws.proofs.Due.{AreDue}
use Rattle.mz_event_laws.proofs.HoldsRise.{holds_rise}
use Rattle.mz_event_laws.proofs.Owed.{owed_due}
use Rattle.mz_event_laws.proofs.Rising.{only_each}

-- the session that a hold was taken for, if any, is in no transaction
abbrev pub HasEnded : Log → Option ℕ → Type 0
HasEnded log None = ⊤
HasEnded log (Some session) = transaction log session ≡ None

-- each of these releases is of a hold whose session has ended its transaction
abbrev pub AreEnded : Log → List Entry → Type 0
AreEnded log [] = ⊤
AreEnded log (Release number ∷ es) = Each (λ hold. hold.number ≡ number → HasEnded log hold.owner) (holds log) × AreEnded log es
AreEnded log (entry ∷ es) = AreEnded log es

-- the session of a hold that is owned by one
pub own_session : (session : ℕ) (o : Option ℕ) → option_map_or (λ own. own == session) o false ≡ true → o ≡ Some session
own_session session None e = absurd (false≢true e)
own_session session (Some own) e = ap Some (eqb-true own session e)

-- ---- what an entry calls for

-- releases of a session whose transaction has ended
releases_ended : (longer : Log) (session : ℕ) → transaction longer session ≡ None → (hs : List Hold)
    → Each (λ h. Each (λ x. x.number ≡ h.number → x ≡ h) (holds longer)) hs → AreEnded longer (releases session hs)
releases_ended longer session ended [] p = tt
releases_ended longer session ended (h ∷ hs) p =
    let later = releases_ended longer session ended hs p.1 in
    cond_both (is_owned_by session h) (h ∷ filter (is_owned_by session) hs) (filter (is_owned_by session) hs)
    (λ own. AreEnded longer (map (λ hold. Release hold.number) own))
    (λ e. (
      each_of (λ x. x.number ≡ h.number → x ≡ h) (λ x. x.number ≡ h.number → HasEnded longer x.owner)
          (λ x is same. subst (HasEnded longer) (sym (ap (λ y. y.owner) (is same) ∙ own_session session h.owner e)) ended) (holds longer) p.0,
      later,
    )) (λ e. later)

-- a BEGIN releases none
none_released : (log : Log) (next : ℕ) (ts : List Taking) → AreEnded log (acquires next ts)
none_released log next [] = tt
none_released log next (first ∷ ts) = none_released log (next + 1) ts

-- nor does a packet
finishes_released : (log longer : Log) (test : PendingPeek → Bool) (peeks : List PendingPeek)
    → AreEnded longer (map (λ peek. Finish peek.peek (peek_rows log peek)) (filter test peeks))
finishes_released log longer test [] = tt
finishes_released log longer test (first ∷ peeks) =
    let later = finishes_released log longer test peeks in
    cond_both (test first) (first ∷ filter test peeks) (filter test peeks)
    (λ those. AreEnded longer (map (λ peek. Finish peek.peek (peek_rows log peek)) those)) (λ e. later) (λ e. later)

-- a transaction that ends now
ends_now : (session : ℕ) (before : Option ℕ) → cond (session == session) None before ≡ None
ends_now session before = cond-true _ _ _ (eq-eqb session session refl)

-- so it is with each entry
called_ended : (log : Log) (entry : Entry) → Legal log → AreEnded (entry ∷ log) (called_for log entry)
called_ended log (Instant session call Start time) l =
    none_released (Instant session call Start time ∷ log) (holds_taken log + 1) (takings_of session time (collections log))
called_ended log (Instant session call Commit time) l =
    releases_ended (Instant session call Commit time ∷ log) session (ends_now session (transaction log session)) (holds log)
    (only_each (λ h. h.number) (holds log) (holds_rise log l).rise)
called_ended log (Close session) l =
    releases_ended (Close session ∷ log) session (ends_now session (transaction log session)) (holds log)
    (only_each (λ h. h.number) (holds log) (holds_rise log l).rise)
called_ended log (Absorbed replica incarnation turn taken ready frontiers) l =
    finishes_released log (Absorbed replica incarnation turn taken ready frontiers ∷ log)
    (is_answered (answers_of log replica incarnation taken ready)) (pending log)
called_ended log entry l = tt

-- ---- what is left of it

-- a transaction that is as it was
ended_same : (log longer : Log) → ((session : ℕ) → transaction longer session ≡ transaction log session) → (o : Option ℕ)
    → HasEnded log o → HasEnded longer o
ended_same log longer same None p = tt
ended_same log longer same (Some session) p = same session ∙ p

-- where an entry changes no transaction, and what was so of each hold of a number is so still
left_ended : (log longer : Log) → ((session : ℕ) → transaction longer session ≡ transaction log session)
    → ((number : ℕ) → Each (λ h. h.number ≡ number → HasEnded log h.owner) (holds log)
    → Each (λ h. h.number ≡ number → HasEnded log h.owner) (holds longer))
    → (es : List Entry) → AreEnded log es → AreEnded longer es
left_ended log longer same fewer [] p = tt
left_ended log longer same fewer (Release number ∷ es) p = (
  each_of (λ h. h.number ≡ number → HasEnded log h.owner) (λ h. h.number ≡ number → HasEnded longer h.owner)
      (λ h q e. ended_same log longer same h.owner (q e)) (holds longer) (fewer number p.0),
  left_ended log longer same fewer es p.1,
)
left_ended log longer same fewer (entry ∷ es) p = left_ended log longer same fewer es p

-- a live hold is among those taken
hold_made : (most number : ℕ) (hs : List Hold) → Each (λ h. h.number ≤ most) hs → list_any (λ live. live.number == number) hs ≡ true
    → number ≤ most
hold_made most number [] p e = absurd (false≢true e)
hold_made most number (h ∷ hs) p e = elim (or_cases (h.number == number) (list_any (λ live. live.number == number) hs) e) [
  | inl own ↦ omega (arith, p.0, eqb-true h.number number own)
  | inr later ↦ hold_made most number hs p.1 later
]

-- once a hold is taken: a release is of another
acquired_ended : (log : Log) (hold collection time next : ℕ) → hold ≡ holds_taken log + 1 → Each (λ h. h.number ≤ holds_taken log) (holds log)
    → (es : List Entry) → AreDue log next es → AreEnded log es → AreEnded (Acquire hold collection time ∷ log) es
acquired_ended log hold collection time next new few [] d p = tt
acquired_ended log hold collection time next new few (Release other ∷ es) d p =
    let longer : Log = Acquire hold collection time ∷ log in (
      each_one (λ h. h.number ≡ other → HasEnded longer h.owner) (holds log) _
          (each_of (λ h. h.number ≡ other → HasEnded log h.owner) (λ h. h.number ≡ other → HasEnded longer h.owner)
          (λ h q e. ended_same log longer (λ session. refl) h.owner (q e)) (holds log) p.0)
          (λ same. absurd (omega (arith, same, new, hold_made (holds_taken log) other (holds log) few d.0))),
      acquired_ended log hold collection time next new few es d.2 p.1,
    )
acquired_ended log hold collection time next new few (Acquire h c t ∷ es) d p = acquired_ended log hold collection time (next + 1) new few es d.3 p
acquired_ended log hold collection time next new few (Finish peek rows ∷ es) d p = acquired_ended log hold collection time next new few es d.3 p
acquired_ended log hold collection time next new few (entry ∷ es) d p = absurd d

-- after what is owed next
next_ended : (log : Log) (entry : Entry) → Each (λ h. h.number ≤ holds_taken log) (holds log) → MayFollow log entry → (later : List Entry)
    → AreDue log (holds_taken log + 1) (entry ∷ later) → AreEnded log (entry ∷ later) → AreEnded (entry ∷ log) (later ++ called_for log entry)
next_ended log (Acquire hold collection time) few may later d p =
    subst (AreEnded (Acquire hold collection time ∷ log)) (sym (append-nil later))
    (acquired_ended log hold collection time (holds_taken log + 1 + 1) may.next_hold few later d.3 p)
next_ended log (Finish peek rows) few may later d p =
    subst (AreEnded (Finish peek rows ∷ log)) (sym (append-nil later))
    (left_ended log (Finish peek rows ∷ log) (λ session. refl) (λ number q. q) later p)
next_ended log (Release hold) few may later d p =
    subst (AreEnded (Release hold ∷ log)) (sym (append-nil later))
    (left_ended log (Release hold ∷ log) (λ session. refl)
    (λ number q. each_filter (λ h. h.number ≡ number → HasEnded log h.owner) (λ live. not (live.number == hold)) (holds log) q) later p.1)
next_ended log entry few may later d p = absurd d

-- after any entry
ended_after : (log : Log) (entry : Entry) → Legal (entry ∷ log) → (es : List Entry) → IsInTurn es entry → AreDue log (holds_taken log + 1) es
    → AreEnded log es → AreEnded (entry ∷ log) (rest es ++ called_for log entry)
ended_after log entry l [] turn d p = called_ended log entry l.0
ended_after log entry l (next ∷ later) turn d p =
    next_ended log entry (holds_rise log l.0).few l.1.may later
    (subst (λ e. AreDue log (holds_taken log + 1) (e ∷ later)) (sym turn) d) (subst (λ e. AreEnded log (e ∷ later)) (sym turn) p)

-- so what a legal log owes to be released has ended
pub owed_ended : (log : Log) → Legal log → AreEnded log (owed log)
owed_ended [] l = tt
owed_ended (entry ∷ log) l = ended_after log entry l (owed log) l.1.in_turn (owed_due log l.0) (owed_ended log l.0)
