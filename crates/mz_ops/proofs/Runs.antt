-- Updates in order of time, taken one time after another.
use Rattle.std.proofs.Common.{◌≡◌, ◌≢◌, ℕ, suc, ◌+◌, ◌<◌, ◌≤◌, ◌==◌, nat_le, Bool, true, false, cond, pos, List, [], ◌∷◌, ◌++◌, length, Option, Some, None, refl, sym, ap, subst, ◌∙◌, append_assoc, true≢false, arith}
use Rattle.std.proofs.lemmas.Bool.Decides.{nat_tests}
use Rattle.std.proofs.lemmas.List.{append-nil, length-append}
use Rattle.std.specs.Cmp.{nat_cmp_is}
use Rattle.std.specs.List.{AllByRecursion as Each, IsDistinct}
use Rattle.std.specs.List.Sorted.{IsStrictlySortedBy}
use Rattle.std.specs.Map.{keys_of}
use Rattle.std.specs.Ordering.{nat_cmp, ordering_then, is_lt}
use Rattle.std.specs.declared.cmp.Ordering.TheVariants.{Less, Greater}
use Rattle.mz_value.specs.Row.{row_cmp, row_eq}
use Rattle.mz_bag.specs.Weighted.{Weighted}
use Rattle.mz_updates.specs.declared.update.Update.{Update}
use Rattle.mz_updates.specs.Consolidated.{update_cmp, IsConsolidated}
use Rattle.mz_updates.specs.Contents.{changes, stamped, IsBefore, IsFrom}
use Rattle.mz_updates.proofs.ContentsLaws.{changes-append, changes-from}
use Rattle.mz_updates.proofs.RowBags.{consolidated_once}
use Rattle.mz_ops.specs.Moments.{begins_at, first_time, IsRun}
use Rattle.mz_ops.proofs.TimeLaws.{IsBefore-append, IsBefore-later, IsBefore-stamped, IsFrom-earlier, IsFrom-stamped, changes-before, changes-stamped, weights-stamped}

-- ---- parts of a list in order

-- what stands before another is no later
no_later : (v w : Update) → update_cmp v w ≡ Less → v.time ≤ w.time
no_later v w less = by (nat_le v.time w.time) refl
  where
    by : (c : Bool) → nat_le v.time w.time ≡ c → v.time ≤ w.time
    by true e = grind (arith, nat_tests)
    by false e =
        let after : w.time < v.time = grind (arith, nat_tests) in
        let greater : Greater ≡ nat_cmp v.time w.time = nat_cmp_is v.time w.time Greater after in
        absurd (true≢false (sym (ap is_lt less) ∙ sym (ap (λ r. is_lt (ordering_then r (row_cmp v.row w.row))) greater)))

each_later : (v : Update) (us : List Update) → Each (λ w. update_cmp v w ≡ Less) us → Each (λ w. v.time ≤ w.time) us
each_later v [] h = tt
each_later v (w ∷ us) h = (no_later v w h.0, each_later v us h.1)

-- so a list is from its first time on
from_first : (v : Update) (us : List Update) → IsConsolidated (v ∷ us) → IsFrom v.time (v ∷ us)
unfolding IsStrictlySortedBy
from_first v us h = by h.in_order
  where
    by : IsStrictlySortedBy update_cmp (v ∷ us) → IsFrom v.time (v ∷ us)
    by k = record { each = (omega arith, each_later v us k.0) }

-- what holds of all holds of a part
each_front : (P : Update → Type 0) (us vs : List Update) → Each P (us ++ vs) → Each P us
each_front P [] vs h = tt
each_front P (u ∷ us) vs h = (h.0, each_front P us vs h.1)

pub each_rest : (P : Update → Type 0) (us vs : List Update) → Each P (us ++ vs) → Each P vs
each_rest P [] vs h = h
each_rest P (u ∷ us) vs h = each_rest P us vs h.1

order_front : (us vs : List Update) → IsStrictlySortedBy update_cmp (us ++ vs) → IsStrictlySortedBy update_cmp us
unfolding IsStrictlySortedBy
order_front [] vs h = tt
order_front (u ∷ us) vs h = (each_front (λ w. update_cmp u w ≡ Less) us vs h.0, order_front us vs h.1)

order_rest : (us vs : List Update) → IsStrictlySortedBy update_cmp (us ++ vs) → IsStrictlySortedBy update_cmp vs
unfolding IsStrictlySortedBy
order_rest [] vs h = h
order_rest (u ∷ us) vs h = order_rest us vs h.1

consolidated_front : (us vs : List Update) → IsConsolidated (us ++ vs) → IsConsolidated us
consolidated_front us vs h = record { in_order = order_front us vs h.in_order; no_zero = each_front (λ u. u.diff ≢ pos 0) us vs h.no_zero }

pub consolidated_rest : (us vs : List Update) → IsConsolidated (us ++ vs) → IsConsolidated vs
consolidated_rest us vs h = record { in_order = order_rest us vs h.in_order; no_zero = each_rest (λ u. u.diff ≢ pos 0) us vs h.no_zero }

-- ---- the first time

-- each list is from the first time on, and one of them begins at it
pub record IsFirst (time : ℕ) (us vs : List Update) : Type 0 where
  pub left : IsFrom time us
  pub right : IsFrom time vs
  pub begins : begins_at time us ≡ false → begins_at time vs ≡ true

itself : (n : ℕ) → (n == n) ≡ true
itself n = grind (arith, nat_tests)

-- the time that is there
abbrev time_of : Option ℕ → ℕ
time_of None = 0
time_of (Some t) = t

pub is_first : (time : ℕ) (us vs : List Update) → IsConsolidated us → IsConsolidated vs → first_time us vs ≡ Some time → IsFirst time us vs
is_first time [] [] h k is = cc
is_first time [] (v ∷ vs) h k is = subst (λ t. IsFirst t [] (v ∷ vs)) (ap time_of is)
    (record { left = record { each = tt }; right = from_first v vs k; begins = λ e. itself v.time })
is_first time (u ∷ us) [] h k is = subst (λ t. IsFirst t (u ∷ us) []) (ap time_of is)
    (record { left = from_first u us h; right = record { each = tt }; begins = λ e. absurd (true≢false (sym (itself u.time) ∙ e)) })
is_first time (u ∷ us) (v ∷ vs) h k is = subst (λ t. IsFirst t (u ∷ us) (v ∷ vs)) (ap time_of is) (by (nat_le u.time v.time) refl)
  where
    by : (c : Bool) → nat_le u.time v.time ≡ c → IsFirst (cond c u.time v.time) (u ∷ us) (v ∷ vs)
    by true e = record {
      left = from_first u us h;
      right = IsFrom-earlier v.time u.time (v ∷ vs) (grind (arith, nat_tests)) (from_first v vs k);
      begins = λ f. absurd (true≢false (sym (itself u.time) ∙ f));
    }
    by false e = record {
      left = IsFrom-earlier u.time v.time (u ∷ us) (grind (arith, nat_tests)) (from_first u us h);
      right = from_first v vs k;
      begins = λ f. itself v.time;
    }

-- where there is none, both are empty
pub none_first : (us vs : List Update) → first_time us vs ≡ None → (us ≡ []) × (vs ≡ [])
none_first [] [] is = (refl, refl)
none_first [] (v ∷ vs) is = cc
none_first (u ∷ us) [] is = cc
none_first (u ∷ us) (v ∷ vs) is = cc

-- ---- runs

-- a run makes a list no longer, and shorter where it begins at the time
run_length : (time : ℕ) (before after : List Update) (rows : Weighted) → IsRun time before rows after → length rows + length after ≡ length before
run_length time before after rows h = sym (ap length (sym h.whole) ∙ length-append (stamped time rows) after ∙ ap (λ n. n + length after) (long rows))
  where
    long : (ws : Weighted) → length (stamped time ws) ≡ length ws
    long [] = refl
    long (w ∷ ws) = ap suc (long ws)

run_begins : (time : ℕ) (before after : List Update) (rows : Weighted) → IsRun time before rows after → begins_at time before ≡ true → length after < length before
run_begins time before after [] h begins = absurd (true≢false (sym begins ∙ ap (begins_at time) (sym h.whole) ∙ h.ended))
run_begins time before after (w ∷ ws) h begins = omega (arith, run_length time before after (w ∷ ws) h)

-- so two runs at the first time take an update
pub runs_take : (time : ℕ) (us vs us' vs' : List Update) (ls rs : Weighted) → IsFirst time us vs → IsRun time us ls us' → IsRun time vs rs vs'
    → length us' + length vs' < length us + length vs
runs_take time us vs us' vs' ls rs first h k = by (begins_at time us) refl
  where
    by : (c : Bool) → begins_at time us ≡ c → length us' + length vs' < length us + length vs
    by true e = omega (arith, run_begins time us us' ls h e, run_length time vs vs' rs k)
    by false e = omega (arith, run_begins time vs vs' rs k (first.begins e), run_length time us us' ls h)

-- ---- how far a list has come

-- the updates before a time were taken, and what is left is in order, from there on and below an upper
pub record HasCome (all rest : List Update) (at upper : ℕ) : Type 0 where
  pub done : List Update
  pub whole : done ++ rest ≡ all
  pub past : IsBefore at done
  pub coming : IsFrom at rest
  pub until : IsBefore upper rest
  pub order : IsConsolidated rest

-- what is left after a run is later
pub rest_later : (time : ℕ) (before after : List Update) (rows : Weighted) → IsRun time before rows after → IsFrom time before → IsConsolidated after
    → IsFrom (time + 1) after
rest_later time before [] rows h from order = record { each = tt }
rest_later time before (v ∷ vs) rows h from order =
    let first : time ≤ v.time = (each_rest (λ u. time ≤ u.time) (stamped time rows) (v ∷ vs) (subst (Each (λ u. time ≤ u.time)) (sym h.whole) from.each)).0 in
    let after : time + 1 ≤ v.time = grind (arith, nat_tests, first, h.ended) in
    IsFrom-earlier v.time (time + 1) (v ∷ vs) after (from_first v vs order)

-- after a run it has come past its time
unfoldable pub come_on : (all rest after : List Update) (rows : Weighted) (at upper time : ℕ) → HasCome all rest at upper → IsRun time rest rows after
    → at ≤ time → IsFrom time rest → HasCome all after (time + 1) upper
come_on all rest after rows at upper time h run later from =
    let order : IsConsolidated after = consolidated_rest (stamped time rows) after (subst IsConsolidated (sym run.whole) h.order) in
    record {
      done = h.done ++ stamped time rows;
      whole = append_assoc h.done (stamped time rows) after ∙ ap (λ us. h.done ++ us) run.whole ∙ h.whole;
      past = IsBefore-append (time + 1) h.done (stamped time rows) (IsBefore-later at (time + 1) h.done (omega (arith, later)) h.past)
          (IsBefore-stamped time (time + 1) rows (omega arith));
      coming = rest_later time rest after rows run from order;
      until = record { each = each_rest (λ u. u.time < upper) (stamped time rows) after (subst (Each (λ u. u.time < upper)) (sym run.whole) h.until.each) };
      order = order;
    }

-- the run is what changes then, each row once
pub run_changes : (all rest after : List Update) (rows : Weighted) (at upper time : ℕ) → HasCome all rest at upper → IsRun time rest rows after
    → at ≤ time → IsFrom time rest → changes time all ≡ rows
run_changes all rest after rows at upper time h run later from =
    let order : IsConsolidated after = consolidated_rest (stamped time rows) after (subst IsConsolidated (sym run.whole) h.order) in
    ap (changes time) (sym h.whole) ∙ changes-append time h.done rest
    ∙ (λ i. changes-before time at h.done h.past later i ++ (ap (changes time) (sym run.whole) ∙ changes-append time (stamped time rows) after) i)
    ∙ (λ i. changes-stamped time rows i ++ changes-from time (time + 1) after (rest_later time rest after rows run from order) (omega arith) i)
    ∙ append-nil rows

pub run_once : (all rest after : List Update) (rows : Weighted) (at upper time : ℕ) → HasCome all rest at upper → IsRun time rest rows after
    → IsDistinct row_eq (keys_of rows)
run_once all rest after rows at upper time h run =
    subst (λ ws. IsDistinct row_eq (keys_of ws)) (weights-stamped time rows)
    (consolidated_once time (stamped time rows) (IsFrom-stamped time time rows (omega arith)) (IsBefore-stamped time (time + 1) rows (omega arith))
    (consolidated_front (stamped time rows) after (subst IsConsolidated (sym run.whole) h.order)))

-- and before it nothing does
pub no_changes : (all rest : List Update) (at upper time t : ℕ) → HasCome all rest at upper → IsFrom time rest → at ≤ t → t < time → changes t all ≡ []
no_changes all rest at upper time t h from low high =
    ap (changes t) (sym h.whole) ∙ changes-append t h.done rest
    ∙ (λ i. changes-before t at h.done h.past low i ++ changes-from t time rest from high i)

-- where it begins at a time, that is below the upper, and no earlier than it has come to
pub first_within : (at upper time : ℕ) (all rest : List Update) → HasCome all rest at upper → begins_at time rest ≡ true → (at ≤ time) × (time < upper)
first_within at upper time all [] h begins = absurd (true≢false (sym begins))
first_within at upper time all (u ∷ rest) h begins =
    let same : u.time ≡ time = grind (arith, nat_tests, begins) in
    (omega (arith, h.coming.each.0, same), omega (arith, h.until.each.0, same))
