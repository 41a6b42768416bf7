-- What a turn changes: each pending peek gets its rows, and nothing else changes.
use Rattle.std.proofs.Common.{◌≡◌, ℕ, Bool, true, false, cond, ◌==◌, ◌&&◌, not, List, [], ◌∷◌, filter, length, map, None, Some, is_none, Option, refl, sym, ap, ◌∙◌, subst, inl, arith}
use Rattle.std.specs.List.{list_any}
use Rattle.std.specs.Option.{option_map_or}
use Rattle.std.proofs.lemmas.Bool.{and_from, and_parts, both_ways, cond-false, cond_both, eq-eqb, eqb-true, ne_eqb, not_from_false}
use Rattle.std.proofs.lemmas.List.{length-map}
use Rattle.mz_bag.specs.Weighted.{Weighted}
use Rattle.mz_plan.specs.declared.command.PendingPeek.{PendingPeek}
use Rattle.mz_rules.proofs.Each.{each_of}
use Rattle.mz_log.specs.declared.entry.Entry.{Entry}
use Rattle.mz_log.specs.declared.entry.Entry.TheVariants.{Finish, Fed, Absorbed}
use Rattle.mz_log.specs.declared.reply.Reply.TheVariants as reply
use Rattle.mz_log.specs.Log.{Log}
use Rattle.mz_books.specs.Entries.{after}
use Rattle.mz_books.specs.Holds.{is_peek, pending}
use Rattle.mz_books.specs.Calls.{Call, awaits, calls, finished, is_waiting, with_reply}
use Rattle.mz_books.specs.Sessions.{calls_made, outstanding, seen}
use Rattle.mz_books.specs.Owed.{peek_rows}
use Rattle.mz_books.specs.Legal.{Legal}
use Rattle.mz_call_laws.specs.Members.{Has, Pairwise}
use Rattle.mz_call_laws.specs.Waiting.{IsMadeBefore}
use Rattle.mz_call_laws.proofs.Flat.{filter_all}
use Rattle.mz_call_laws.proofs.Lists.{each_from}
use Rattle.mz_call_laws.proofs.PendingCalls.{pending_call, pending_rises}
use Rattle.mz_call_laws.proofs.Precedes.{one_peek, one_waits}
use Rattle.mz_frames.specs.Turns.{IsTurn}
use Rattle.mz_frames.proofs.Appended.{waiting_in}
use Rattle.mz_frames.proofs.Changed.{either_none, finished_keeps, made_changed, seen_changed, sessions_kept, waits_ended, waits_same}

-- ---- one peek

-- a peek of a call
awaits_own : (p : ℕ) (own : Option ℕ) (waits : Bool) → own ≡ Some p → waits ≡ true
    → (option_map_or (λ n. n == p) own false && waits) ≡ true
awaits_own p own waits is w =
    and_from _ _ (ap (λ o. option_map_or (λ n. n == p) o false) is ∙ eq-eqb p p refl) w

-- a call that waits for the peek has it
has_peek : (p : ℕ) (own : Option ℕ) → option_map_or (λ n. n == p) own false ≡ true → own ≡ Some p
has_peek p None e = absurd (cc)
has_peek p (Some n) e = ap (λ k. Some k) (eqb-true n p e)

-- a call that waits for the peek, if it waits, has its reply
call_done : (p : ℕ) (rows : Weighted) (c : Call) → (is_waiting c ≡ true → c.peek ≡ Some p) → is_waiting (finished p rows c) ≡ false
call_done p rows c is =
    cond_both (awaits p c) (with_reply c.stored.time (reply.Rows c.stored.time rows) c) c (λ d. is_waiting d ≡ false) (λ _. refl)
    (λ test. elim (is_waiting c) as (λ b. is_waiting c ≡ b → b ≡ false) [
      | true ↦ λ waits. absurd (both_ways (awaits p c) test (awaits_own p c.peek (is_waiting c) (is waits) waits))
      | false ↦ λ _. refl
    ] refl)

-- a call that doesn't wait for it stays
call_stays : (p : ℕ) (rows : Weighted) (c : Call) → (awaits p c ≡ true → ⊥) → finished p rows c ≡ c
call_stays p rows c other =
    cond_both (awaits p c) (with_reply c.stored.time (reply.Rows c.stored.time rows) c) c (λ d. d ≡ c)
    (λ test. absurd (other test)) (λ _. refl)

-- the session of a peek that has its rows waits for no call
pub finish_waits : (log : Log) → Legal log → (waiting : PendingPeek) (rows : Weighted) → Has waiting (pending log) → (other : ℕ)
    → outstanding (Finish waiting.peek rows ∷ log) other ≡ cond (waiting.session == other) None (outstanding log other)
finish_waits log l waiting rows h other =
    let p = waiting.peek in
    let asked = pending_call log l waiting h in
    let kept = sessions_kept (finished p rows) (calls log) (finished_keeps p rows (calls log)) in
    elim (waiting.session == other) as (λ b. (waiting.session == other) ≡ b
    → waiting_in other (map (finished p rows) (calls log)) ≡ cond b None (waiting_in other (calls log))) [
      | true ↦ λ own. waits_ended other (finished p rows) (calls log) kept
          (each_from _ (calls log)
          (λ c there mine. call_done p rows c
          (λ waits.
          let its : c.stored.session ≡ asked.call.stored.session = mine ∙ sym (asked.is.session ∙ eqb-true waiting.session other own) in
          let same = one_waits log l c asked.call there asked.there its waits (ap is_none asked.is.no_reply) in
          ap (λ d. d.peek) same ∙ asked.is.peek)))
      | false ↦ λ apart. waits_same other (finished p rows) (calls log) kept
          (each_from _ (calls log)
          (λ c there mine. call_stays p rows c
          (λ test.
          let its = has_peek p c.peek (and_parts (option_map_or (λ n. n == p) c.peek false) (is_waiting c) test).0 in
          let same = one_peek log l c asked.call p there asked.there its asked.is.peek in
          both_ways (waiting.session == other) apart
          (eq-eqb waiting.session other (sym (ap (λ d. d.stored.session) same ∙ asked.is.session) ∙ mine)))))
    ] refl

-- a session has made as many calls
pub finish_made : (log : Log) (peek : ℕ) (rows : Weighted) (other : ℕ) → calls_made (Finish peek rows ∷ log) other ≡ calls_made log other
finish_made log peek rows other =
    made_changed other (finished peek rows) (calls log) (sessions_kept (finished peek rows) (calls log) (finished_keeps peek rows (calls log)))

-- there are as many calls
pub finish_long : (log : Log) (peek : ℕ) (rows : Weighted) → length (calls (Finish peek rows ∷ log)) ≡ length (calls log)
finish_long log peek rows = length-map (calls log) (finished peek rows)

-- and no session has seen another time
pub finish_seen : (log : Log) (peek : ℕ) (rows : Weighted) (other : ℕ) → seen (Finish peek rows ∷ log) other ≡ seen log other
finish_seen log peek rows other = seen_changed other (finished peek rows) (calls log) (finished_keeps peek rows (calls log))

-- ---- all peeks

-- each of these peeks gets its rows
abbrev pub finishes_of : (PendingPeek → Weighted) → List PendingPeek → List Entry
finishes_of rows peeks = map (λ peek. Finish peek.peek (rows peek)) peeks

-- what the rows of one peek leave, all of them leave
pub finishes_leave : {A : Type 0} (view : Log → A) → ((log : Log) (peek : ℕ) (rows : Weighted) → view (Finish peek rows ∷ log) ≡ view log)
    → (rows : PendingPeek → Weighted) (peeks : List PendingPeek) (log : Log) → view (after (finishes_of rows peeks) log) ≡ view log
finishes_leave view leaves rows [] log = refl
finishes_leave view leaves rows (peek ∷ peeks) log =
    finishes_leave view leaves rows peeks (Finish peek.peek (rows peek) ∷ log) ∙ leaves log peek.peek (rows peek)

-- a log of which a legal one is longer
pub legal_before : (es : List Entry) (log : Log) → Legal (after es log) → Legal log
legal_before [] log l = l
legal_before (entry ∷ es) log l = (legal_before es (entry ∷ log) l).0

-- the first peek goes, and those after it stay
first_goes : (peek : PendingPeek) (peeks : List PendingPeek) → Pairwise IsMadeBefore (peek ∷ peeks)
    → filter (λ waiting. not (is_peek peek.peek waiting)) (peek ∷ peeks) ≡ peeks
first_goes peek peeks rises =
    cond-false _ _ _ (ap not (eq-eqb peek.peek peek.peek refl))
    ∙ filter_all (λ waiting. not (is_peek peek.peek waiting)) peeks
    (each_of _ _ (λ waiting less. not_from_false _ (ne_eqb waiting.peek peek.peek (λ same. omega arith))) peeks rises.0)

-- so the others are pending once it has its rows
rest_pends : (log : Log) (peek : PendingPeek) (peeks : List PendingPeek) (rows : Weighted) → Legal log → pending log ≡ peek ∷ peeks
    → pending (Finish peek.peek rows ∷ log) ≡ peeks
rest_pends log peek peeks rows l is =
    ap (filter (λ waiting. not (is_peek peek.peek waiting))) is
    ∙ first_goes peek peeks (subst (Pairwise IsMadeBefore) is (pending_rises log l))

-- in the end none is
pub finishes_end : (rows : PendingPeek → Weighted) (peeks : List PendingPeek) (log : Log) → Legal (after (finishes_of rows peeks) log)
    → pending log ≡ peeks → pending (after (finishes_of rows peeks) log) ≡ []
finishes_end rows [] log l is = is
finishes_end rows (peek ∷ peeks) log l is =
    let next = Finish peek.peek (rows peek) ∷ log in
    finishes_end rows peeks next l
    (rest_pends log peek peeks (rows peek) (legal_before (finishes_of rows peeks) next l).0 is)

-- and the session of each waits for no call
pub finishes_wait : (rows : PendingPeek → Weighted) (peeks : List PendingPeek) (log : Log) → Legal (after (finishes_of rows peeks) log)
    → pending log ≡ peeks → (other : ℕ)
    → outstanding (after (finishes_of rows peeks) log) other
    ≡ cond (list_any (λ peek. peek.session == other) peeks) None (outstanding log other)
finishes_wait rows [] log l is other = refl
finishes_wait rows (peek ∷ peeks) log l is other =
    let next = Finish peek.peek (rows peek) ∷ log in
    let before = (legal_before (finishes_of rows peeks) next l).0 in
    finishes_wait rows peeks next l (rest_pends log peek peeks (rows peek) before is) other
    ∙ ap (cond (list_any (λ p. p.session == other) peeks) None)
    (finish_waits log before peek (rows peek) (subst (Has peek) (sym is) (inl refl)) other)
    ∙ either_none (peek.session == other) (list_any (λ p. p.session == other) peeks) (outstanding log other)

-- ---- a turn

-- the log once a replica was fed and its packet was absorbed, before any peek has its rows
abbrev pub absorbed : (log later : Log) → IsTurn log later → Log
absorbed log later t =
    Absorbed t.replica t.incarnation t.turn t.taken t.ready t.frontiers ∷ Fed t.replica t.incarnation t.fed t.to ∷ log

-- a turn gives all pending peeks their rows
pub turn_is : (log later : Log) → (t : IsTurn log later)
    → later ≡ after (finishes_of (peek_rows log) (pending log)) (absorbed log later t)
turn_is log later t = t.is ∙ ap (λ es. after es (absorbed log later t)) t.finishes_all

-- what the entries of a turn leave, it leaves
pub turn_leaves : {A : Type 0} (view : Log → A) → ((log : Log) (peek : ℕ) (rows : Weighted) → view (Finish peek rows ∷ log) ≡ view log)
    → ((log later : Log) (t : IsTurn log later) → view (absorbed log later t) ≡ view log)
    → (log later : Log) → IsTurn log later → view later ≡ view log
turn_leaves view leaves begins log later t =
    ap view (turn_is log later t)
    ∙ finishes_leave view leaves (peek_rows log) (pending log) (absorbed log later t) ∙ begins log later t

-- no peek is pending after it
pub turn_pending : (log later : Log) → IsTurn log later → pending later ≡ []
turn_pending log later t =
    ap pending (turn_is log later t)
    ∙ finishes_end (peek_rows log) (pending log) (absorbed log later t) (subst Legal (turn_is log later t) t.legal) refl

-- the sessions of the peeks wait for no call, and others as before
pub turn_waits : (log later : Log) → IsTurn log later → (other : ℕ)
    → outstanding later other ≡ cond (list_any (λ peek. peek.session == other) (pending log)) None (outstanding log other)
turn_waits log later t other =
    ap (λ l. outstanding l other) (turn_is log later t)
    ∙ finishes_wait (peek_rows log) (pending log) (absorbed log later t) (subst Legal (turn_is log later t) t.legal) refl other
