-- What waits is emptied: commands by a round that is begun and applied at once, or refused where no time is left, and peeks by a packet.
use Rattle.std.proofs.Common.{◌≡◌, ℕ, ◌<◌, ◌==◌, ◌&&◌, Bool, true, false, not, List, [], ◌∷◌, map, filter, Option, Some, refl, sym, ap, ◌∙◌, inl, inr}
use Rattle.std.specs.List.{AllByRecursion as Each, list_any}
use Rattle.std.proofs.lemmas.Bool.{and_from, cond-false, eq-eqb, eqb-true, false≢true, not-true, or_cases, or_left, or_right}
use Rattle.mz_bag.specs.Weighted.{Weighted}
use Rattle.mz_print.specs.Print.{print_of}
use Rattle.mz_refusal.specs.declared.refusal.Refusal.TheVariants.{TimeSpent}
use Rattle.mz_plan.specs.declared.command.PendingPeek.{PendingPeek}
use Rattle.mz_rules.proofs.Each.{each_of}
use Rattle.mz_log.specs.CarriedOut.{seq}
use Rattle.mz_log.specs.Sequential.{Sequential}
use Rattle.mz_log.specs.declared.entry.Entry.TheVariants.{Begin, Apply, Finish, Refused, Absorbed}
use Rattle.mz_log.specs.declared.entry.Replied.{Replied}
use Rattle.mz_log.specs.Log.{Log}
use Rattle.mz_books.specs.Entries.{Queued, after, is_queued_as, is_reply_to}
use Rattle.mz_books.specs.Clusters.{cluster_of}
use Rattle.mz_books.specs.Rounds.{Round, queued, read_time, unreplied}
use Rattle.mz_books.specs.States.{newest_state, replies_to}
use Rattle.mz_books.specs.Holds.{is_peek, pending}
use Rattle.mz_books.specs.Owed.{event, peek_rows}
use Rattle.mz_books.specs.Given.{spent}
use Rattle.mz_books.specs.Legal.{Legal}
use Rattle.mz_event_laws.proofs.Rising.{found_each}
use Rattle.mz_safe_laws.proofs.Reached.{each_left}
use Rattle.mz_stream_laws.specs.Taken.{HasTakenAll}
use Rattle.mz_stream_laws.proofs.Answered.{all_finished}

-- ---- lists

-- what each member passes leaves none
none_left : {A : Type 0} (test : A → Bool) (xs : List A) → Each (λ x. test x ≡ true) xs → filter (λ x. not (test x)) xs ≡ []
none_left test [] p = refl
none_left test (x ∷ xs) p = cond-false _ _ _ (ap not p.0) ∙ none_left test xs p.1

-- where nothing finds any member, there is none
none_found : {A : Type 0} (xs : List A) → Each (λ x. false ≡ true) xs → xs ≡ []
none_found [] p = refl
none_found (x ∷ xs) p = absurd (false≢true p.0)

-- ---- a round

-- each command has its reply
all_replied : (cluster : ℕ → ℕ) (state : Sequential) (commands : List Queued)
    → Each (λ command. list_any (is_reply_to command.session command.call) (replies_to cluster state commands) ≡ true) commands
all_replied cluster state [] = tt
all_replied cluster state (first ∷ commands) =
    let later : List Replied = replies_to cluster (seq state (cluster first.session) first.statement).state commands in (
      or_left ((first.session == first.session) && (first.call == first.call)) (list_any (is_reply_to first.session first.call) later)
          (and_from (first.session == first.session) (first.call == first.call) (eq-eqb first.session first.session refl)
          (eq-eqb first.call first.call refl)),
      each_of (λ command. list_any (is_reply_to command.session command.call) later ≡ true)
          (λ command. list_any (is_reply_to command.session command.call) (replies_to cluster state (first ∷ commands)) ≡ true)
          (λ command q. or_right ((first.session == command.session) && (first.call == command.call))
          (list_any (is_reply_to command.session command.call) later) q) commands
          (all_replied cluster (seq state (cluster first.session) first.statement).state commands),
    )

-- one that is begun and applied at once leaves no command
pub round_empties : (log : Log) (number time at : ℕ) (replies : List Replied) → Legal (Apply at replies ∷ (Begin number time ∷ log))
    → queued (Apply at replies ∷ (Begin number time ∷ log)) ≡ []
round_empties log number time at replies l =
    let may = l.1.may in
    let begun : Log = Begin number time ∷ log in
    let begins : Round = record { number = number; time = time; commands = queued log } in
    let same : ◌≡◌ {A = Option Round} (Some begins) (Some may.round) = may.is_open in
    let round : begins ≡ may.round = cc in
    let own : replies ≡ replies_to (cluster_of begun) (newest_state begun) (queued log) =
    may.own_replies ∙ sym (ap (λ r. replies_to (cluster_of begun) (newest_state begun) r.commands) round) in
    ap (λ rs. unreplied rs (queued log)) own
    ∙ none_left (λ command. list_any (is_reply_to command.session command.call) (replies_to (cluster_of begun) (newest_state begun) (queued log)))
    (queued log) (all_replied (cluster_of begun) (newest_state begun) (queued log))

-- ---- no time left

-- refusals leave no command that one of them is of
refusals_empty : (last : ℕ) (commands : List Queued) (log : Log)
    → Each (λ x. list_any (λ command. is_queued_as command.session command.call x) commands ≡ true) (queued log)
    → queued (after (spent last commands) log) ≡ []
refusals_empty last [] log p = none_found (queued log) p
refusals_empty last (first ∷ commands) log p =
    let refused : Log = Refused first.session first.call (print_of first.statement) (TimeSpent last) ∷ log in
    refusals_empty last commands refused
    (each_left (λ x. list_any (λ command. is_queued_as command.session command.call x) (first ∷ commands) ≡ true)
    (λ x. list_any (λ command. is_queued_as command.session command.call x) commands ≡ true)
    (λ x. not (is_queued_as first.session first.call x))
    (λ x left e. elim (or_cases (is_queued_as first.session first.call x) (list_any (λ command. is_queued_as command.session command.call x) commands) e) [
      | inl own ↦ absurd (false≢true (sym (not-true (is_queued_as first.session first.call x) left) ∙ own))
      | inr later ↦ later
    ]) (queued log) p)

-- each command is that of its own session and call
own_queued : (commands : List Queued) → Each (λ x. list_any (λ command. is_queued_as command.session command.call x) commands ≡ true) commands
own_queued [] = tt
own_queued (first ∷ commands) = (
  or_left (is_queued_as first.session first.call first) (list_any (λ command. is_queued_as command.session command.call first) commands)
      (and_from (first.session == first.session) (first.call == first.call) (eq-eqb first.session first.session refl) (eq-eqb first.call first.call refl)),
  each_of (λ x. list_any (λ command. is_queued_as command.session command.call x) commands ≡ true)
      (λ x. list_any (λ command. is_queued_as command.session command.call x) (first ∷ commands) ≡ true)
      (λ x q. or_right (is_queued_as first.session first.call x) (list_any (λ command. is_queued_as command.session command.call x) commands) q)
      commands (own_queued commands),
)

-- so where no time is left, all that wait are refused
pub spent_empties : (log : Log) (last : ℕ) → queued (after (spent last (queued log)) log) ≡ []
spent_empties log last = refusals_empty last (queued log) log (own_queued (queued log))

-- ---- a packet

-- finishes leave no peek that one of them is of
finishes_empty : (rows : PendingPeek → Weighted) (peeks : List PendingPeek) (log : Log)
    → Each (λ x. list_any (λ peek. peek.peek == x.peek) peeks ≡ true) (pending log)
    → pending (after (map (λ peek. Finish peek.peek (rows peek)) peeks) log) ≡ []
finishes_empty rows [] log p = none_found (pending log) p
finishes_empty rows (first ∷ peeks) log p =
    finishes_empty rows peeks (Finish first.peek (rows first) ∷ log)
    (each_left (λ x. list_any (λ peek. peek.peek == x.peek) (first ∷ peeks) ≡ true) (λ x. list_any (λ peek. peek.peek == x.peek) peeks ≡ true)
    (λ x. not (is_peek first.peek x))
    (λ x left e. elim (or_cases (first.peek == x.peek) (list_any (λ peek. peek.peek == x.peek) peeks) e) [
      | inl own ↦ absurd (false≢true (sym (not-true (x.peek == first.peek) left) ∙ eq-eqb x.peek first.peek (sym (eqb-true first.peek x.peek own))))
      | inr later ↦ later
    ]) (pending log) p)

-- so the packet of a live replica that has come past the read time leaves none
pub packet_empties : (log : Log) (replica : List ℕ) (incarnation turn taken ready : ℕ) (frontiers : List (ℕ × ℕ)) → Legal log
    → HasTakenAll log replica incarnation taken → read_time log < ready
    → pending (event log (Absorbed replica incarnation turn taken ready frontiers)) ≡ []
packet_empties log replica incarnation turn taken ready frontiers l has past =
    let absorbed : Log = Absorbed replica incarnation turn taken ready frontiers ∷ log in
    ap (λ es. pending (after es absorbed)) (all_finished log replica incarnation taken ready l has past)
    ∙ finishes_empty (peek_rows log) (pending log) absorbed (found_each (λ peek. peek.peek) (pending log))
