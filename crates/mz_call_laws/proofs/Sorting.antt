-- The calls sorted by time: all of them, rising, and those of one time in their order.
use Rattle.std.proofs.Common.{◌≡◌, ℕ, zero, suc, ◌<◌, ◌≤◌, max, Bool, true, false, cond, leb, ◌==◌, List, [], ◌∷◌, ◌++◌, refl, sym, ap, ap₂, ◌∙◌, arith}
use Rattle.std.specs.List.{AllByRecursion as Each}
use Rattle.std.specs.List.Sorted.{IsPermutation, IsNonDecreasingBy}
use Rattle.std.proofs.lemmas.Bool.{cond-false, cond_both, eqb-true, leb-true, leb-false, ne_eqb}
use Rattle.std.proofs.lemmas.List.Sorted.{IsPermutation-refl, IsPermutation-trans, IsPermutation-cons, IsPermutation-middle}
use Rattle.mz_log.specs.Log.{Log}
use Rattle.mz_books.specs.Calls.{Call, calls}
use Rattle.mz_books.specs.History.{put, by_time, history}
use Rattle.mz_call_laws.specs.Calls.{calls_at}
use Rattle.mz_rules.proofs.Each.{each_of}
use Rattle.mz_call_laws.proofs.Rising.{Rising, rising_from_index, rising_index}
use Rattle.mz_call_laws.proofs.Buckets.{put_front, upto, by_time_upto}

-- what holds of each call still does
each_put : (P : Call → Type 0) (c : Call) (xs : List Call) → P c → Each P xs → Each P (put c xs)
each_put P c [] p e = (p, tt)
each_put P c (x ∷ xs) p e =
    cond_both (leb c.stored.time x.stored.time) (c ∷ x ∷ xs) (x ∷ put c xs) (Each P) (λ _. (p, e)) (λ _. (e.0, each_put P c xs p e.1))

-- a call put in its place keeps the list rising
put_rising : (c : Call) (xs : List Call) → Rising xs → Rising (put c xs)
put_rising c [] r = (tt, tt)
put_rising c (x ∷ xs) r =
    cond_both (leb c.stored.time x.stored.time) (c ∷ x ∷ xs) (x ∷ put c xs) Rising
    (λ e. let first = leb-true c.stored.time x.stored.time e in ((first, each_of _ _ (λ y later. omega arith) xs r.0), r))
    (λ e. let past = leb-false c.stored.time x.stored.time e in (each_put _ c xs (omega arith) r.0, put_rising c xs r.1))

-- so the sorted calls rise
by_time_rising : (cs : List Call) → Rising (by_time cs)
by_time_rising [] = tt
by_time_rising (c ∷ cs) = put_rising c (by_time cs) (by_time_rising cs)

-- what holds of each call holds of each sorted one
pub each_by_time : (P : Call → Type 0) (cs : List Call) → Each P cs → Each P (by_time cs)
each_by_time P [] e = tt
each_by_time P (c ∷ cs) e = each_put P c (by_time cs) e.0 (each_by_time P cs e.1)

-- a call moves past others, and none is lost
put_permutes : (c : Call) (xs : List Call) → IsPermutation (c ∷ xs) (put c xs)
put_permutes c [] = IsPermutation-refl (c ∷ [])
put_permutes c (x ∷ xs) =
    cond_both (leb c.stored.time x.stored.time) (c ∷ x ∷ xs) (x ∷ put c xs) (IsPermutation (c ∷ x ∷ xs)) (λ _. IsPermutation-refl (c ∷ x ∷ xs))
    (λ _.
    let rest = IsPermutation-cons x (c ∷ xs) (put c xs) (put_permutes c xs) in
    IsPermutation-trans (c ∷ x ∷ xs) (x ∷ c ∷ xs) (x ∷ put c xs) (IsPermutation-middle (c ∷ []) x xs) rest)

-- so the sorted calls are the calls
by_time_permutes : (cs : List Call) → IsPermutation cs (by_time cs)
by_time_permutes [] = IsPermutation-refl []
by_time_permutes (c ∷ cs) =
    IsPermutation-trans (c ∷ cs) (c ∷ by_time cs) (put c (by_time cs)) (IsPermutation-cons c cs (by_time cs) (by_time_permutes cs)) (put_permutes c (by_time cs))

-- of a call and an earlier one, at most one is in a bucket
moved : (t : ℕ) (c x : Call) (xs : List Call) → x.stored.time < c.stored.time
    → cond (x.stored.time == t) (x ∷ calls_at t (c ∷ xs)) (calls_at t (c ∷ xs)) ≡ calls_at t (c ∷ x ∷ xs)
moved t c x xs h =
    let bucket : Bool → List Call = λ b. cond b (x ∷ calls_at t xs) (calls_at t xs) in
    elim (x.stored.time == t) as (λ b. (x.stored.time == t) ≡ b → cond b (x ∷ calls_at t (c ∷ xs)) (calls_at t (c ∷ xs))
    ≡ cond (c.stored.time == t) (c ∷ bucket b) (bucket b)) [
      | true ↦ λ e.
          let own = eqb-true x.stored.time t e in
          let other = ne_eqb c.stored.time t (λ same. omega arith) in
          ap (λ l. x ∷ l) (cond-false _ _ _ other) ∙ sym (cond-false _ _ _ other)
      | false ↦ λ _. refl
    ] refl

-- a call moves only past calls that are earlier, which are in other buckets
put_stable : (t : ℕ) (c : Call) (xs : List Call) → calls_at t (put c xs) ≡ calls_at t (c ∷ xs)
put_stable t c [] = refl
put_stable t c (x ∷ xs) =
    cond_both (leb c.stored.time x.stored.time) (c ∷ x ∷ xs) (x ∷ put c xs) (λ l. calls_at t l ≡ calls_at t (c ∷ x ∷ xs)) (λ _. refl)
    (λ e. let past = leb-false c.stored.time x.stored.time e in ap (λ l. cond (x.stored.time == t) (x ∷ l) l) (put_stable t c xs) ∙ moved t c x xs (omega arith))

-- so each bucket stays
by_time_stable : (t : ℕ) (cs : List Call) → calls_at t (by_time cs) ≡ calls_at t cs
by_time_stable t [] = refl
by_time_stable t (c ∷ cs) = put_stable t c (by_time cs) ∙ ap (λ l. cond (c.stored.time == t) (c ∷ l) l) (by_time_stable t cs)

-- the history is all calls
pub history_permutes : (log : Log) → IsPermutation (calls log) (history log)
history_permutes log = by_time_permutes (calls log)

-- no time in it falls
pub history_rising : (log : Log) → IsNonDecreasingBy (λ call. call.stored.time) (history log)
history_rising log = rising_index (history log) (by_time_rising (calls log))

-- the calls of one time stand in their order
pub history_stable : (log : Log) (time : ℕ) → calls_at time (history log) ≡ calls_at time (calls log)
history_stable log time = by_time_stable time (calls log)

-- a list that rises is sorted
rising_sorted : (cs : List Call) → Rising cs → by_time cs ≡ cs
rising_sorted [] r = refl
rising_sorted (c ∷ cs) r = ap (put c) (rising_sorted cs r.1) ∙ put_front c cs r.0

-- buckets alone make the sorted list
upto_alike : (xs ys : List Call) → ((time : ℕ) → calls_at time xs ≡ calls_at time ys) → (t : ℕ) → upto t xs ≡ upto t ys
upto_alike xs ys alike zero = alike 0
upto_alike xs ys alike (suc t) = ap₂ (λ l m. l ++ m) (upto_alike xs ys alike t) (alike (suc t))

-- the greatest time of the calls
greatest : List Call → ℕ
greatest [] = 0
greatest (c ∷ cs) = max c.stored.time (greatest cs)

-- no call is later
within_greatest : (n : ℕ) (cs : List Call) → greatest cs ≤ n → Each (λ c. c.stored.time ≤ n) cs
unfolding greatest
within_greatest n [] h = tt
within_greatest n (c ∷ cs) h = (omega arith, within_greatest n cs (omega arith))

-- a list that rises, and has the calls of each time in their order, is the sorted list
pub sorted_only : (calls sorted : List Call) → IsNonDecreasingBy (λ call. call.stored.time) sorted
    → ((time : ℕ) → calls_at time sorted ≡ calls_at time calls) → sorted ≡ by_time calls
sorted_only calls sorted rising alike =
    let n = max (greatest sorted) (greatest calls) in
    sym (rising_sorted sorted (rising_from_index sorted rising)) ∙ by_time_upto n sorted (within_greatest n sorted (omega arith))
    ∙ upto_alike sorted calls alike n
    ∙ sym (by_time_upto n calls (within_greatest n calls (omega arith)))
