-- What a packet means for each pending peek, and what is owed then.
use Rattle.std.proofs.Common.{◌≡◌, ℕ, ◌<◌, ◌≤◌, ◌==◌, ◌&&◌, ◌⊎◌, Bool, true, false, not, List, [], ◌∷◌, length, filter, map, take, nat_lt, refl, sym, ap, ◌∙◌, subst, inl, inr, arith}
use Rattle.std.specs.List.{AllByRecursion as Each, list_any}
use Rattle.std.proofs.lemmas.Bool.{and_from, cases_lt, cond-true, cond_both, eq-eqb, eqb-true, false≢true, lt-ltb, not_from_false, or_cases, or_left, or_right}
use Rattle.mz_plan.specs.declared.command.Command.{Command}
use Rattle.mz_plan.specs.declared.command.Command.TheVariants.{Create, Allow, Peek, Retire}
use Rattle.mz_plan.specs.declared.command.PendingPeek.{PendingPeek}
use Rattle.mz_rules.specs.Streams.{is_retired}
use Rattle.mz_rules.proofs.Each.{each_of, each_take}
use Rattle.mz_log.specs.declared.entry.Entry.{Entry}
use Rattle.mz_log.specs.declared.entry.Entry.TheVariants.{Finish}
use Rattle.mz_log.specs.Log.{Log}
use Rattle.mz_books.specs.Feeds.{answers_in, packet_answers}
use Rattle.mz_books.specs.Holds.{pending}
use Rattle.mz_books.specs.Owed.{finishes, is_answered, peek_rows}
use Rattle.mz_books.specs.Safe.{asks_for, finishes_it}
use Rattle.mz_safe_laws.proofs.Reached.{Agrees, IfAsked, Reach, not_retired}

-- a packet that has come past the time of a peek that it was asked for answers it
answered : (waiting : PendingPeek) (ready : ℕ) (all : List Command) → is_retired waiting.peek all ≡ false → waiting.time < ready
    → (lines : List Command) → Each (Agrees waiting) lines → asks_for waiting.peek lines ≡ true
    → is_answered (answers_in all ready lines) waiting ≡ true
answered waiting ready all stays early [] p e = absurd (false≢true e)
answered waiting ready all stays early (Create collection plan t ∷ lines) p e = answered waiting ready all stays early lines p.1 e
answered waiting ready all stays early (Allow collection f ∷ lines) p e = answered waiting ready all stays early lines p.1 e
answered waiting ready all stays early (Retire peek ∷ lines) p e = answered waiting ready all stays early lines p.1 e
answered waiting ready all stays early (Peek peek collection t ∷ lines) p e =
    let has : List ℕ → Bool = λ answers. is_answered answers waiting in
    let later : asks_for waiting.peek lines ≡ true → has (answers_in all ready lines) ≡ true = answered waiting ready all stays early lines p.1 in
    elim (or_cases (peek == waiting.peek) (asks_for waiting.peek lines) e) [
      | inl own ↦
          let same = eqb-true peek waiting.peek own in
          let time = p.0 same in
          let kept : is_retired peek all ≡ false = ap (λ k. is_retired k all) same ∙ stays in
          let test : (nat_lt t ready && not (is_retired peek all)) ≡ true =
          and_from (nat_lt t ready) (not (is_retired peek all)) (lt-ltb t ready (omega arith)) (not_from_false (is_retired peek all) kept) in
          subst (λ answers. has answers ≡ true) (sym (cond-true _ _ _ test))
          (or_left (peek == waiting.peek) (has (answers_in all ready lines)) own)
      | inr after ↦
          cond_both (nat_lt t ready && not (is_retired peek all)) (peek ∷ answers_in all ready lines) (answers_in all ready lines)
          (λ answers. has answers ≡ true) (λ h. or_right (peek == waiting.peek) (has (answers_in all ready lines)) (later after))
          (λ h. later after)
    ]

-- the peek is no earlier than what the packet is ready for, or the packet answers it
abbrev pub IsMet : ℕ → List ℕ → PendingPeek → Type 0
IsMet ready answers waiting = (ready ≤ waiting.time) ⊎ (is_answered answers waiting ≡ true)

-- so it is with each that the first so many lines of a stream ask for
pub all_met : (ready taken : ℕ) (lines : List Command) (peeks : List PendingPeek) → taken ≤ length lines
    → Each (λ waiting. Each (Agrees waiting) lines) peeks → Reach (IsMet ready (packet_answers (take taken lines) ready)) taken lines peeks
all_met ready taken lines peeks h agree = record {
  within = h;
  means = each_of (λ waiting. Each (Agrees waiting) lines) (IfAsked (IsMet ready (packet_answers (take taken lines) ready)) taken lines)
      (λ waiting a e.
      let own : Each (Agrees waiting) (take taken lines) = each_take (Agrees waiting) taken lines a in
      elim (cases_lt waiting.time ready) [
        | inl early ↦ inr (answered waiting ready (take taken lines) (not_retired waiting (take taken lines) own) early (take taken lines) own e)
        | inr late ↦ inl late
      ]) peeks agree;
}

-- the peek is finished by one of the entries, where it is one that is answered
abbrev pub IsFinished : Log → List ℕ → List PendingPeek → PendingPeek → Type 0
IsFinished log answers peeks waiting =
    is_answered answers waiting ≡ true
    → list_any (finishes_it waiting.peek) (map (λ peek. Finish peek.peek (peek_rows log peek)) (filter (is_answered answers) peeks)) ≡ true

-- so it is with each of them
finished_in : (log : Log) (answers : List ℕ) (peeks : List PendingPeek) → Each (IsFinished log answers peeks) peeks
finished_in log answers [] = tt
finished_in log answers (first ∷ peeks) =
    let rest = finished_in log answers peeks in
    let entries : List PendingPeek → List Entry = map (λ peek. Finish peek.peek (peek_rows log peek)) in
    cond_both (is_answered answers first) (first ∷ filter (is_answered answers) peeks) (filter (is_answered answers) peeks)
    (λ left. (is_answered answers first ≡ true → list_any (finishes_it first.peek) (entries left) ≡ true)
    × Each (λ waiting. is_answered answers waiting ≡ true → list_any (finishes_it waiting.peek) (entries left) ≡ true) peeks)
    (λ e. (
      (λ h. or_left (first.peek == first.peek) _ (eq-eqb first.peek first.peek refl)),
      each_of (IsFinished log answers peeks) _ (λ waiting p h. or_right (first.peek == waiting.peek) _ (p h)) peeks rest,
    ))
    (λ e. ((λ h. absurd (false≢true (sym e ∙ h))), rest))

-- and so what is owed after a packet finishes each pending peek that it answers
pub answered_finished : (log : Log) (answers : List ℕ)
    → Each (λ waiting. is_answered answers waiting ≡ true → list_any (finishes_it waiting.peek) (finishes log answers) ≡ true) (pending log)
answered_finished log answers = finished_in log answers (pending log)
