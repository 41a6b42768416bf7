-- The times that are given one after another.
use Rattle.std.proofs.Common.{◌≡◌, ℕ, zero, suc, ◌+◌, ◌<◌, Bool, true, false, cond, nat_le, List, [], ◌∷◌, Result, Ok, Err, is_ok, refl, slice_index, sym, ap, subst, true≢false, arith}
use Rattle.std.specs.List.Sorted.{IsStrictlyIncreasing}
use Rattle.mz_oracle.specs.declared.fault.TimeSpent.{TimeSpent}
use Rattle.mz_oracle.specs.Oracle.{given, given_then, greatest_given, next_time, times_given}

-- the time of a result
time_of : Result ℕ TimeSpent → ℕ
time_of (Ok time) = time
time_of (Err spent) = 0

-- what a choice gives is its time
chosen : (b : Bool) (next time : ℕ) (spent : TimeSpent) → cond b (Ok next) (Err spent) ≡ Ok time → next ≡ time
unfolding time_of
chosen true next time spent is = ap time_of is
chosen false next time spent is = absurd (true≢false (sym (ap is_ok is)))

-- a time that is given is after the last one
after_last : (last now time : ℕ) → given last now ≡ Ok time → last < time
after_last last now time is =
    let next : next_time last now ≡ time = chosen (nat_le (next_time last now) greatest_given) _ time _ is in
    omega arith

-- rising numbers with one before them that is below the first
one_below : (t u : ℕ) (us : List ℕ) → t < u → IsStrictlyIncreasing (u ∷ us) → IsStrictlyIncreasing (t ∷ u ∷ us)
one_below t u us below rest zero within = below
one_below t u us below rest (suc k) within =
    let next : suc (k + 1) ≡ suc k + 1 = omega arith in
    subst (λ n. slice_index (u ∷ us) k < slice_index (t ∷ u ∷ us) n) next (rest k (omega arith))

-- so the times ascend
pub given_ascend : (last : ℕ) (moments : List ℕ) → IsStrictlyIncreasing (last ∷ times_given last moments)
given_ascend last [] = λ k within. absurd (omega arith)
given_ascend last (now ∷ moments) = by (λ time. given_ascend time moments) (given last now) refl
  where
    by : ((time : ℕ) → IsStrictlyIncreasing (time ∷ times_given time moments)) → (r : Result ℕ TimeSpent) → given last now ≡ r
        → IsStrictlyIncreasing (last ∷ given_then r last (λ time. times_given time moments))
    by rest (Ok time) is = one_below last time (times_given time moments) (after_last last now time is) (rest time)
    by rest (Err spent) is = rest last
