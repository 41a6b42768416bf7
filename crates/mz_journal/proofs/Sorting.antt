-- The calls sorted by time: all of them, rising, and those of one time in their order.
use Rattle.std.proofs.Common.{◌≡◌, ℕ, zero, suc, ◌<◌, ◌≤◌, max, Bool, true, false, not, ◌&&◌, None, Less, Equal, Greater, cond, leb, ltb, ◌==◌, List, [], ◌∷◌, ◌++◌, refl, sym, ap, ap₂, ◌∙◌, inl, inr, arith}
use Rattle.std.specs.List.{filter}
use Rattle.std.specs.List.Sorted.{IsPermutation, IsNonDecreasingBy, IsSortedByKey, IsStableByKey, ties}
use Rattle.std.specs.Ordering.{is_lt, nat_cmp}
use Rattle.std.proofs.lemmas.Bool.{cond-false, cond_both, eqb-true, leb-true, leb-false, lt-ltb, le-ltb, eq-eqb, ne_eqb, cases_lt}
use Rattle.std.proofs.lemmas.List.Sorted.{IsPermutation-refl, IsPermutation-trans, IsPermutation-cons, IsPermutation-middle, IsNonDecreasingBy-from_sort}
use Rattle.mz_log.specs.declared.journal.CallEntry.{CallEntry}
use Rattle.mz_journal.specs.History.{put, by_time, calls_at}
use Rattle.mz_journal.proofs.Each.{Each, each_map, each_index, each_from_index}
use Rattle.mz_journal.proofs.Buckets.{put_front, upto, by_time_upto}

-- no call has a later time than one after it
abbrev pub Rising : List CallEntry → Type 0
Rising [] = Unit {0}
Rising (c ∷ cs) = Each (λ x. c.time ≤ x.time) cs × Rising cs

-- what holds of each call still does
each_put : (P : CallEntry → Type 0) (c : CallEntry) (xs : List CallEntry) → P c → Each P xs → Each P (put c xs)
each_put P c [] p e = (p, tt)
each_put P c (x ∷ xs) p e =
    cond_both (leb c.time x.time) (c ∷ x ∷ xs) (x ∷ put c xs) (Each P) (λ _. (p, e)) (λ _. (e.0, each_put P c xs p e.1))

-- a call put in its place keeps the list rising
put_rising : (c : CallEntry) (xs : List CallEntry) → Rising xs → Rising (put c xs)
put_rising c [] r = (tt, tt)
put_rising c (x ∷ xs) r =
    cond_both (leb c.time x.time) (c ∷ x ∷ xs) (x ∷ put c xs) Rising
    (λ e. let first = leb-true c.time x.time e in ((first, each_map _ _ (λ y later. omega arith) xs r.0), r))
    (λ e. let past = leb-false c.time x.time e in (each_put _ c xs (omega arith) r.0, put_rising c xs r.1))

-- so the sorted calls rise
by_time_rising : (cs : List CallEntry) → Rising (by_time cs)
by_time_rising [] = tt
by_time_rising (c ∷ cs) = put_rising c (by_time cs) (by_time_rising cs)

-- a call moves past others, and none is lost
put_permutes : (c : CallEntry) (xs : List CallEntry) → IsPermutation (c ∷ xs) (put c xs)
put_permutes c [] = IsPermutation-refl (c ∷ [])
put_permutes c (x ∷ xs) =
    cond_both (leb c.time x.time) (c ∷ x ∷ xs) (x ∷ put c xs) (IsPermutation (c ∷ x ∷ xs)) (λ _. IsPermutation-refl (c ∷ x ∷ xs))
    (λ _.
    let rest = IsPermutation-cons x (c ∷ xs) (put c xs) (put_permutes c xs) in
    IsPermutation-trans (c ∷ x ∷ xs) (x ∷ c ∷ xs) (x ∷ put c xs) (IsPermutation-middle (c ∷ []) x xs) rest)

-- so the sorted calls are the calls
pub by_time_permutes : (cs : List CallEntry) → IsPermutation cs (by_time cs)
by_time_permutes [] = IsPermutation-refl []
by_time_permutes (c ∷ cs) =
    IsPermutation-trans (c ∷ cs) (c ∷ by_time cs) (put c (by_time cs)) (IsPermutation-cons c cs (by_time cs) (by_time_permutes cs)) (put_permutes c (by_time cs))

-- of a call and an earlier one, at most one is in a bucket
moved : (t : ℕ) (c x : CallEntry) (xs : List CallEntry) → x.time < c.time
    → cond (x.time == t) (x ∷ calls_at t (c ∷ xs)) (calls_at t (c ∷ xs)) ≡ calls_at t (c ∷ x ∷ xs)
moved t c x xs h =
    let bucket : Bool → List CallEntry = λ b. cond b (x ∷ calls_at t xs) (calls_at t xs) in
    elim (x.time == t) as (λ b. (x.time == t) ≡ b → cond b (x ∷ calls_at t (c ∷ xs)) (calls_at t (c ∷ xs))
    ≡ cond (c.time == t) (c ∷ bucket b) (bucket b)) [
      | true ↦ λ e.
          let own = eqb-true x.time t e in
          let other = ne_eqb c.time t (λ same. omega arith) in
          ap (λ l. x ∷ l) (cond-false _ _ _ other) ∙ sym (cond-false _ _ _ other)
      | false ↦ λ _. refl
    ] refl

-- a call moves only past calls that are earlier, which are in other buckets
put_stable : (t : ℕ) (c : CallEntry) (xs : List CallEntry) → calls_at t (put c xs) ≡ calls_at t (c ∷ xs)
put_stable t c [] = refl
put_stable t c (x ∷ xs) =
    cond_both (leb c.time x.time) (c ∷ x ∷ xs) (x ∷ put c xs) (λ l. calls_at t l ≡ calls_at t (c ∷ x ∷ xs)) (λ _. refl)
    (λ e. let past = leb-false c.time x.time e in ap (λ l. cond (x.time == t) (x ∷ l) l) (put_stable t c xs) ∙ moved t c x xs (omega arith))

-- so each bucket stays
by_time_stable : (t : ℕ) (cs : List CallEntry) → calls_at t (by_time cs) ≡ calls_at t cs
by_time_stable t [] = refl
by_time_stable t (c ∷ cs) = put_stable t c (by_time cs) ∙ ap (λ l. cond (c.time == t) (c ∷ l) l) (by_time_stable t cs)

-- rising, place by place
pub rising_index : (cs : List CallEntry) → Rising cs → IsNonDecreasingBy (λ c. c.time) cs
rising_index [] r i j d le lt = absurd (omega arith)
rising_index (c ∷ cs) r zero zero d le lt = omega arith
rising_index (c ∷ cs) r zero (suc j) d le lt = each_index (λ x. c.time ≤ x.time) cs r.0 j d (omega arith)
rising_index (c ∷ cs) r (suc i) zero d le lt = absurd (omega arith)
rising_index (c ∷ cs) r (suc i) (suc j) d le lt = rising_index cs r.1 i j d (omega arith) (omega arith)

-- and back
rising_from_index : (cs : List CallEntry) → IsNonDecreasingBy (λ c. c.time) cs → Rising cs
rising_from_index [] n = tt
rising_from_index (c ∷ cs) n = (
  each_from_index (λ x. c.time ≤ x.time) cs (λ k d lt. n 0 (suc k) d (omega arith) (omega arith)),
  rising_from_index cs (λ i j d le lt. n (suc i) (suc j) d (omega arith) (omega arith)),
)

-- no time in the sorted calls falls
pub by_time_never_falls : (calls : List CallEntry) → IsNonDecreasingBy (λ call. call.time) (by_time calls)
by_time_never_falls calls = rising_index (by_time calls) (by_time_rising calls)

-- the calls of one time stand in their order
pub by_time_keeps_order : (calls : List CallEntry) (time : ℕ) → calls_at time (by_time calls) ≡ calls_at time calls
by_time_keeps_order calls time = by_time_stable time calls

-- the three together
pub ruleset history_laws = (by_time_permutes, by_time_never_falls, by_time_keeps_order)

-- a list that rises is sorted
rising_sorted : (cs : List CallEntry) → Rising cs → by_time cs ≡ cs
rising_sorted [] r = refl
rising_sorted (c ∷ cs) r = ap (put c) (rising_sorted cs r.1) ∙ put_front c cs r.0

-- buckets alone make the sorted list
upto_alike : (xs ys : List CallEntry) → ((time : ℕ) → calls_at time xs ≡ calls_at time ys) → (t : ℕ) → upto t xs ≡ upto t ys
upto_alike xs ys alike zero = alike 0
upto_alike xs ys alike (suc t) = ap₂ (λ l m. l ++ m) (upto_alike xs ys alike t) (alike (suc t))

-- the greatest time of the calls
greatest : List CallEntry → ℕ
greatest [] = 0
greatest (c ∷ cs) = max c.time (greatest cs)

-- no call is later
within_greatest : (n : ℕ) (cs : List CallEntry) → greatest cs ≤ n → Each (λ c. c.time ≤ n) cs
unfolding greatest
within_greatest n [] h = tt
within_greatest n (c ∷ cs) h = (omega arith, within_greatest n cs (omega arith))

-- a list that rises, and has the calls of each time in their order, is the sorted list
pub sorted_only : (calls sorted : List CallEntry) → IsNonDecreasingBy (λ call. call.time) sorted
    → ((time : ℕ) → calls_at time sorted ≡ calls_at time calls) → sorted ≡ by_time calls
sorted_only calls sorted rising alike =
    let n = max (greatest sorted) (greatest calls) in
    sym (rising_sorted sorted (rising_from_index sorted rising)) ∙ by_time_upto n sorted (within_greatest n sorted (omega arith))
    ∙ upto_alike sorted calls alike n
    ∙ sym (by_time_upto n calls (within_greatest n calls (omega arith)))

-- two tests that agree keep the same calls
filter_alike : (p q : CallEntry → Bool) → ((c : CallEntry) → p c ≡ q c) → (cs : List CallEntry) → filter p cs ≡ filter q cs
filter_alike p q same [] = refl
filter_alike p q same (c ∷ cs) = ap₂ (λ b l. cond b (c ∷ l) l) (same c) (filter_alike p q same cs)

-- neither of two numbers is below the other exactly where they are equal
tied : (t u : ℕ) → (not (ltb t u) && not (ltb u t)) ≡ (u == t)
tied t u =
    elim (cases_lt t u) [
      | inl before ↦ ap (λ b. not b && not (ltb u t)) (lt-ltb t u before) ∙ sym (ne_eqb u t (λ same. omega arith))
      | inr after ↦
          elim (cases_lt u t) [
            | inl behind ↦ ap₂ (λ a b. not a && not b) (le-ltb t u after) (lt-ltb u t behind) ∙ sym (ne_eqb u t (λ same. omega arith))
            | inr level ↦ ap₂ (λ a b. not a && not b) (le-ltb t u after) (le-ltb u t level) ∙ sym (eq-eqb u t (omega arith))
          ]
    ]

-- the order of numbers, as a choice by two tests
less_first : (b e : Bool) → is_lt (cond b Less (cond e Equal Greater)) ≡ b
less_first true e = refl
less_first false true = refl
less_first false false = refl

-- it tells which number is below the other
less : (t u : ℕ) → is_lt (nat_cmp t u) ≡ ltb t u
less t u = less_first (ltb t u) (t == u)

-- a list that a stable sort by times leaves is the sorted list
pub sorted_history : (calls sorted : List CallEntry) → IsSortedByKey (λ call. call.time) nat_cmp sorted
    → IsStableByKey (λ call. call.time) nat_cmp calls sorted → sorted ≡ by_time calls
sorted_history calls sorted up stable =
    sorted_only calls sorted (IsNonDecreasingBy-from_sort (λ call. call.time) sorted up)
    (λ time.
    let at : CallEntry = record { session = 0; call = 0; time = time; text = []; reply = None } in
    let same : (c : CallEntry) → ties (λ x y. is_lt (nat_cmp x.time y.time)) at c ≡ (c.time == time) =
    λ c. ap₂ (λ a b. not a && not b) (less time c.time) (less c.time time) ∙ tied time c.time in
    sym (filter_alike _ _ same sorted) ∙ stable at ∙ filter_alike _ _ same calls)
