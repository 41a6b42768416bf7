-- The table of holds: what is kept of them, as they come, move and go, and what is read off it.
use Rattle.std.proofs.Common.{◌≡◌, ℕ, ◌+◌, ◌<◌, ◌==◌, Bool, true, false, cond, Some, List, [], ◌∷◌, ◌++◌, length, map, refl, sym, ap, subst, ◌∙◌, arith}
use Rattle.std.proofs.lemmas.Bool.Decides.{nat_tests}
use Rattle.std.proofs.lemmas.List.{take-append-le, length-append}
use Rattle.std.proofs.Math.Seq.{take-length}
use Rattle.mz_time.specs.declared.frontier.Frontier.TheVariants.{At}
use Rattle.mz_time.specs.Frontier.{meet}
use Rattle.mz_counted.specs.Counted.{CountedTimes, count, inserted, removed, least_of}
use Rattle.mz_counted.proofs.Multiset.{comes_back, counts_come, counts_in_order, total_in_order, least_in_order}
use Rattle.mz_rules.specs.declared.capability.Hold.{Hold}
use Rattle.mz_rules.specs.Capabilities.{of_hold}
use Rattle.mz_rules.specs.Since.{least_on}
use Rattle.mz_holds.specs.HoldBook.{at_time, hold_of, times_on}
use Rattle.mz_holds.specs.Kept.{times_at, changed_at, AreCounted, AreNumbered, IsKept, IsRising}
use Rattle.mz_holds.proofs.Counting.{changed_here}
use Rattle.mz_holds.proofs.Held.{sorted_on, on_it, on_other, behind, others, with_others, others_moved, found_moved, numbered_others, rising_moved, numbered_moved, numbered_more}

-- ---- the table

-- with a hold more
pub kept_more : (live : List Hold) (taken mark then : ℕ) (before after : List CountedTimes) (x : Hold) → IsKept live taken mark then before → x.number ≡ taken + 1
    → ((c : ℕ) → times_at c after ≡ changed_at x.collection (inserted x.time) c (times_at c before)) → IsKept (live ++ x ∷ []) (taken + 1) mark then after
kept_more live taken mark then before after x k e h = record {
  marked = omega (arith, k.marked, length-append live (x ∷ []));
  numbered = numbered_more taken live x k.numbered e;
  numbered_then = subst (λ xs. AreNumbered xs then) (sym (take-append-le mark live (x ∷ []) k.marked)) k.numbered_then;
  counted = record { each = λ c. h c ∙ ap (λ ts. changed_at x.collection (inserted x.time) c ts) (k.counted.each c) ∙ sym (behind c x live) };
}

-- what is counted is there
pub is_counted : (n : ℕ) (live : List Hold) (counted : List CountedTimes) (h : Hold) → IsRising live → AreCounted live counted → hold_of n live ≡ Some h
    → 0 < count h.time (times_at h.collection counted)
is_counted n live counted h f k e =
    let same : (h.collection == h.collection) ≡ true = grind (arith, nat_tests) in
    let itself : (h.time == h.time) ≡ true = grind (arith, nat_tests) in
    let is : times_at h.collection counted ≡ inserted h.time (sorted_on h.collection (others n live))
    = k.each h.collection ∙ with_others n h.collection live h f e ∙ changed_here (inserted h.time) h.collection h.collection (sorted_on h.collection (others n live)) same in
    omega (arith, ap (count h.time) is, counts_come h.time h.time (sorted_on h.collection (others n live)), ap {B = ℕ} (λ b. cond b 1 0) itself)

gone : (t k c : ℕ) (ts us : List ℕ) → ts ≡ changed_at k (inserted t) c us → changed_at k (removed t) c ts ≡ us
gone t k c ts us e = ap (λ vs. changed_at k (removed t) c vs) e ∙ by (c == k)
  where
    by : (b : Bool) → cond b (removed t (cond b (inserted t us) us)) (cond b (inserted t us) us) ≡ us
    by true = comes_back t us
    by false = refl

shifted : (t u k c : ℕ) (ts us : List ℕ) → ts ≡ changed_at k (inserted t) c us → changed_at k (λ vs. inserted u (removed t vs)) c ts ≡ changed_at k (inserted u) c us
shifted t u k c ts us e = ap (λ vs. changed_at k (λ ws. inserted u (removed t ws)) c vs) e ∙ by (c == k)
  where
    by : (b : Bool) → cond b (inserted u (removed t (cond b (inserted t us) us))) (cond b (inserted t us) us) ≡ cond b (inserted u us) us
    by true = ap (inserted u) (comes_back t us)
    by false = refl

-- without a hold
pub kept_less : (n : ℕ) (live : List Hold) (taken mark then : ℕ) (before after : List CountedTimes) (h : Hold) → IsKept live taken mark then before → hold_of n live ≡ Some h
    → ((c : ℕ) → times_at c after ≡ changed_at h.collection (removed h.time) c (times_at c before)) → IsKept (others n live) taken 0 then after
kept_less n live taken mark then before after h k e q = record {
  marked = omega arith;
  numbered = numbered_others n taken live k.numbered;
  numbered_then = record { rising = tt; within = tt };
  counted = record {
    each = λ c. q c
        ∙ gone h.time h.collection c (times_at c before) (sorted_on c (others n live)) (k.counted.each c ∙ with_others n c live h k.numbered.rising e);
  };
}

-- with a hold moved
pub kept_moved : (n t : ℕ) (live : List Hold) (taken mark then : ℕ) (before after : List CountedTimes) (h : Hold) → IsKept live taken mark then before → hold_of n live ≡ Some h
    → ((c : ℕ) → times_at c after ≡ changed_at h.collection (λ ts. inserted t (removed h.time ts)) c (times_at c before)) → IsKept (map (at_time n t) live) taken 0 then after
kept_moved n t live taken mark then before after h k e q =
    let rising = rising_moved n t live k.numbered.rising in
    record {
      marked = omega arith;
      numbered = numbered_moved n t taken live k.numbered;
      numbered_then = record { rising = tt; within = tt };
      counted = record {
        each = λ c. q c
            ∙ shifted h.time t h.collection c (times_at c before) (sorted_on c (others n live)) (k.counted.each c ∙ with_others n c live h k.numbered.rising e)
            ∙ sym (with_others n c (map (at_time n t) live) (record h { time = t }) rising (found_moved n t live h e)
            ∙ ap (λ xs. changed_at h.collection (inserted t) c (sorted_on c xs)) (others_moved n t live));
      };
    }

-- without the last
pub counted_less : (live : List Hold) (before after : List CountedTimes) (h : Hold) → AreCounted (live ++ h ∷ []) before
    → ((c : ℕ) → times_at c after ≡ changed_at h.collection (removed h.time) c (times_at c before)) → AreCounted live after
counted_less live before after h k q = record { each = λ c. q c ∙ gone h.time h.collection c (times_at c before) (sorted_on c live) (k.each c ∙ behind c h live) }

pub last_counted : (live : List Hold) (counted : List CountedTimes) (h : Hold) → AreCounted (live ++ h ∷ []) counted → 0 < count h.time (times_at h.collection counted)
last_counted live counted h k =
    let same : (h.collection == h.collection) ≡ true = grind (arith, nat_tests) in
    let itself : (h.time == h.time) ≡ true = grind (arith, nat_tests) in
    let is : times_at h.collection counted ≡ inserted h.time (sorted_on h.collection live)
    = k.each h.collection ∙ behind h.collection h live ∙ changed_here (inserted h.time) h.collection h.collection (sorted_on h.collection live) same in
    omega (arith, ap (count h.time) is, counts_come h.time h.time (sorted_on h.collection live), ap {B = ℕ} (λ b. cond b 1 0) itself)

-- ---- what is read

pub least_held : (c : ℕ) (live : List Hold) → least_of (times_on c live) ≡ least_on c (map of_hold live)
least_held c [] = refl
least_held c (x ∷ xs) = by (x.collection == c) refl (least_held c xs)
  where
    by : (b : Bool) → (x.collection == c) ≡ b → least_of (times_on c xs) ≡ least_on c (map of_hold xs)
        → least_of (times_on c (x ∷ xs)) ≡ cond (x.collection == c) (meet (At x.time) (least_on c (map of_hold xs))) (least_on c (map of_hold xs))
    by true k ih = ap least_of (on_it c x xs k) ∙ ap (meet (At x.time)) ih ∙ sym (ap (λ b. cond b (meet (At x.time) (least_on c (map of_hold xs))) (least_on c (map of_hold xs))) k)
    by false k ih = ap least_of (on_other c x xs k) ∙ ih ∙ sym (ap (λ b. cond b (meet (At x.time) (least_on c (map of_hold xs))) (least_on c (map of_hold xs))) k)

pub count_kept : (c t : ℕ) (live : List Hold) (counted : List CountedTimes) → AreCounted live counted → count t (times_at c counted) ≡ count t (times_on c live)
count_kept c t live counted k = ap (count t) (k.each c) ∙ counts_in_order t (times_on c live)

pub total_kept : (c : ℕ) (live : List Hold) (counted : List CountedTimes) → AreCounted live counted → length (times_at c counted) ≡ length (times_on c live)
total_kept c live counted k = ap length (k.each c) ∙ total_in_order (times_on c live)

pub least_kept : (c : ℕ) (live : List Hold) (counted : List CountedTimes) → AreCounted live counted → least_of (times_at c counted) ≡ least_on c (map of_hold live)
least_kept c live counted k = ap least_of (k.each c) ∙ least_in_order (times_on c live) ∙ least_held c live

-- a mark at the end is the whole
pub kept_whole : (live : List Hold) (taken mark then : ℕ) (counted : List CountedTimes) → IsKept live taken mark then counted → IsKept live taken (length live) taken counted
kept_whole live taken mark then counted k = record {
  marked = omega arith;
  numbered = k.numbered;
  numbered_then = subst (λ xs. AreNumbered xs taken) (sym (take-length live)) k.numbered;
  counted = k.counted;
}
