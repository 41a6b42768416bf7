-- The calls of one session: their times, the one that waits, and their order in the history.
use Rattle.std.proofs.Common.{◌≡◌, ℕ, ◌<◌, ◌≤◌, max, Bool, true, false, cond, leb, ◌==◌, List, [], ◌∷◌, refl, sym, ap, ◌∙◌, arith}
use Rattle.std.specs.List.{AllByRecursion as Each, range_with_len}
use Rattle.std.specs.List.Sorted.{IsNonDecreasingBy}
use Rattle.std.proofs.lemmas.Bool.{cond-false, cond_both, eqb-true, leb-false, ne_eqb}
use Rattle.mz_rules.proofs.Each.{each_all}
use Rattle.mz_log.specs.Log.{Log}
use Rattle.mz_books.specs.Rounds.{read_time}
use Rattle.mz_books.specs.Calls.{Call, calls, calls_of, seen_in}
use Rattle.mz_books.specs.Sessions.{calls_made, seen}
use Rattle.mz_books.specs.History.{put, by_time, history}
use Rattle.mz_books.specs.Legal.{Legal}
use Rattle.mz_call_laws.specs.Calls.{Precedes, last_time_of, numbers}
use Rattle.mz_call_laws.specs.Members.{Pairwise}
use Rattle.mz_call_laws.proofs.Numbers.{in_range}
use Rattle.mz_call_laws.proofs.Precedes.{precedes}
use Rattle.mz_call_laws.proofs.Rising.{Rising, rising_index}
use Rattle.mz_call_laws.proofs.Sorting.{each_by_time}
use Rattle.mz_call_laws.proofs.Timed.{timed}
use Rattle.mz_call_laws.proofs.Transactions.{seen_until}
use Rattle.mz_call_laws.proofs.OwnCalls.{own_rising}

-- place by place
pub session_times : (log : Log) (session : ℕ) → Legal log → IsNonDecreasingBy (λ call. call.stored.time) (calls_of session (calls log))
session_times log session l = rising_index (calls_of session (calls log)) (own_rising log session l)

-- each call has its session's next number
pub session_numbers : (log : Log) (session : ℕ) → Legal log
    → numbers (calls_of session (calls log)) ≡ range_with_len 1 (calls_made log session)
session_numbers log session l = in_range log l session

-- the greatest time of calls that never fall is that of the last
greatest_last : (time session : ℕ) (cs : List Call) → Each (λ c. time ≤ c.stored.time) (calls_of session cs) → Rising (calls_of session cs)
    → max time (seen_in session cs) ≡ last_time_of time (calls_of session cs)
greatest_last time session [] e r = omega arith
greatest_last time session (c ∷ cs) e r =
    elim (c.stored.session == session) as (λ b. Each (λ d. time ≤ d.stored.time) (cond b (c ∷ calls_of session cs) (calls_of session cs))
    → Rising (cond b (c ∷ calls_of session cs) (calls_of session cs))
    → max time (cond b (max c.stored.time (seen_in session cs)) (seen_in session cs))
    ≡ last_time_of time (cond b (c ∷ calls_of session cs) (calls_of session cs))) [
      | true ↦ λ after rising.
          let rest = greatest_last c.stored.time session cs rising.0 rising.1 in
          let first = after.0 in
          let same : max time (max c.stored.time (seen_in session cs)) ≡ max c.stored.time (seen_in session cs) = omega arith in
          same ∙ rest
      | false ↦ λ after rising. greatest_last time session cs after rising
    ] e r

-- a session has seen the time of its last call
pub seen_last : (log : Log) (session : ℕ) → Legal log → seen log session ≡ last_time_of 0 (calls_of session (calls log))
seen_last log session l =
    let same : seen_in session (calls log) ≡ max 0 (seen_in session (calls log)) = omega arith in
    same ∙ greatest_last 0 session (calls log) (each_all _ (λ c. omega arith) (calls_of session (calls log))) (own_rising log session l)

-- which may be read
pub seen_readable : (log : Log) (session : ℕ) → Legal log → seen log session ≤ read_time log
seen_readable log session l = seen_until session (read_time log) (calls log) (timed log l).done

-- of a call and an earlier one that it may move past, at most one is of the session
moved_own : (s : ℕ) (c x : Call) (xs : List Call) → x.stored.time < c.stored.time → Precedes c x
    → cond (x.stored.session == s) (x ∷ calls_of s (c ∷ xs)) (calls_of s (c ∷ xs)) ≡ calls_of s (c ∷ x ∷ xs)
moved_own s c x xs past before =
    let own : Bool → List Call = λ b. cond b (x ∷ calls_of s xs) (calls_of s xs) in
    elim (x.stored.session == s) as (λ b. (x.stored.session == s) ≡ b → cond b (x ∷ calls_of s (c ∷ xs)) (calls_of s (c ∷ xs))
    ≡ cond (c.stored.session == s) (c ∷ own b) (own b)) [
      | true ↦ λ e.
          let other = ne_eqb c.stored.session s
          (λ mine. let later = before.no_later (mine ∙ sym (eqb-true x.stored.session s e)) in absurd (omega arith)) in
          ap (λ l. x ∷ l) (cond-false _ _ _ other) ∙ sym (cond-false _ _ _ other)
      | false ↦ λ _. refl
    ] refl

-- a call moves past none of its session
put_own : (s : ℕ) (c : Call) (xs : List Call) → Each (Precedes c) xs → calls_of s (put c xs) ≡ calls_of s (c ∷ xs)
put_own s c [] o = refl
put_own s c (x ∷ xs) o =
    cond_both (leb c.stored.time x.stored.time) (c ∷ x ∷ xs) (x ∷ put c xs) (λ l. calls_of s l ≡ calls_of s (c ∷ x ∷ xs)) (λ _. refl)
    (λ e. ap (λ l. cond (x.stored.session == s) (x ∷ l) l) (put_own s c xs o.1)
    ∙ moved_own s c x xs (leb-false c.stored.time x.stored.time e) o.0)

-- so sorting keeps the calls of a session
own_by_time : (s : ℕ) (cs : List Call) → Pairwise Precedes cs → calls_of s (by_time cs) ≡ calls_of s cs
own_by_time s [] o = refl
own_by_time s (c ∷ cs) o =
    put_own s c (by_time cs) (each_by_time (Precedes c) cs o.0)
    ∙ ap (λ l. cond (c.stored.session == s) (c ∷ l) l) (own_by_time s cs o.1)

-- and so does the history
pub session_history : (log : Log) (session : ℕ) → Legal log → calls_of session (history log) ≡ calls_of session (calls log)
session_history log session l = own_by_time session (calls log) (precedes log l)
