-- Lists of calls whose times never fall.
use Rattle.std.proofs.Common.{ℕ, zero, suc, ◌<◌, ◌≤◌, List, [], ◌∷◌, length, slice_index_or, arith}
use Rattle.std.specs.List.{AllByRecursion as Each}
use Rattle.std.specs.List.Sorted.{IsNonDecreasingBy}
use Rattle.mz_books.specs.Calls.{Call}
use Rattle.mz_call_laws.specs.Members.{Pairwise}

-- what holds of each call holds at each place
each_index : (P : Call → Type 0) (xs : List Call) → Each P xs → (k : ℕ) (d : Call) → k < length xs → P (slice_index_or xs k d)
each_index P [] e k d h = absurd (omega arith)
each_index P (x ∷ xs) e zero d h = e.0
each_index P (x ∷ xs) e (suc k) d h = each_index P xs e.1 k d (omega arith)

-- and back
each_from_index : (P : Call → Type 0) (xs : List Call) → ((k : ℕ) (d : Call) → k < length xs → P (slice_index_or xs k d)) → Each P xs
each_from_index P [] f = tt
each_from_index P (x ∷ xs) f = (f 0 x (omega arith), each_from_index P xs (λ k d h. f (suc k) d (omega arith)))

-- no call has a later time than one after it
abbrev pub Rising : List Call → Type 0
Rising cs = Pairwise (λ c x. c.stored.time ≤ x.stored.time) cs

-- rising, place by place
pub rising_index : (cs : List Call) → Rising cs → IsNonDecreasingBy (λ c. c.stored.time) cs
rising_index [] r i j d le lt = absurd (omega arith)
rising_index (c ∷ cs) r zero zero d le lt = omega arith
rising_index (c ∷ cs) r zero (suc j) d le lt = each_index (λ x. c.stored.time ≤ x.stored.time) cs r.0 j d (omega arith)
rising_index (c ∷ cs) r (suc i) zero d le lt = absurd (omega arith)
rising_index (c ∷ cs) r (suc i) (suc j) d le lt = rising_index cs r.1 i j d (omega arith) (omega arith)

-- and back
pub rising_from_index : (cs : List Call) → IsNonDecreasingBy (λ c. c.stored.time) cs → Rising cs
rising_from_index [] n = tt
rising_from_index (c ∷ cs) n = (
  each_from_index (λ x. c.stored.time ≤ x.stored.time) cs (λ k d lt. n 0 (suc k) d (omega arith) (omega arith)),
  rising_from_index cs (λ i j d le lt. n (suc i) (suc j) d (omega arith) (omega arith)),
)
