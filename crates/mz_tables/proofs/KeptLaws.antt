-- What is kept stays so where changes are appended, a mark is set, and updates are folded.
use Rattle.std.proofs.Common.{◌≡◌, ℕ, ◌+◌, ◌<◌, ◌≤◌, nat_le, Bool, true, false, ◌+ℤ◌, List, [], ◌∷◌, ◌++◌, take, length, refl, sym, ap, subst, ◌∙◌, append-nil, length-append, arith}
use Rattle.std.proofs.lemmas.Bool.Decides.{nat_tests}
use Rattle.std.proofs.Math.Seq.{take-length}
use Rattle.std.proofs.lemmas.List.{take-append-le}
use Rattle.std.specs.FinMap.{entries}
use Rattle.std.specs.List.{AllByRecursion as Each}
use Rattle.std.specs.List.Sorted.{IsStrictlySortedBy}
use Rattle.std.specs.Ordering.{nat_cmp, ordering_then}
use Rattle.std.specs.declared.cmp.Ordering.{Ordering}
use Rattle.std.specs.declared.cmp.Ordering.TheVariants.{Less, Equal, Greater}
use Rattle.std.proofs.lemmas.Cmp.{ranked}
use Rattle.std.specs.Ordering.{MatchOrdering}
use Rattle.mz_value.specs.declared.datum.Datum.{Datum}
use Rattle.mz_value.specs.Row.{row_cmp}
use Rattle.mz_bag.specs.Bag.{Counts, count_in, Fits}
use Rattle.mz_bag.specs.Weighted.{Weighted, count, bag_of}
use Rattle.mz_bag.proofs.BagLaws.{count-append, count-entries, count_in-bag_of, count_in-sum_of, same_counts, IsBag-bag_of, IsBag-sum_of}
use Rattle.mz_updates.specs.declared.update.Update.{Update}
use Rattle.mz_updates.specs.Consolidated.{update_cmp, IsConsolidated}
use Rattle.mz_updates.specs.Contents.{weights, contents, compacted, stamped, FitsFrom, HasSums, IsBefore, SameContents, SameFrom}
use Rattle.mz_updates.proofs.ContentsLaws.{contents-append, contents-before, contents-from, contents-compacted, IsFrom-compacted}
use Rattle.mz_updates.proofs.RowBags.{sums_from}
use Rattle.mz_tables.specs.Kept.{book, IsKept, IsOrdered}
use Rattle.mz_tables.specs.Table.{IsAppended, IsCompacted, TakesChanges}

-- ---- changes at a time behind those before it

-- stamped rows are at their time
stamped_from : (lower w : ℕ) (ws : Weighted) → lower ≤ w → Each (λ u. lower ≤ u.time) (stamped w ws)
stamped_from lower w [] h = tt
stamped_from lower w (x ∷ ws) h = (h, stamped_from lower w ws h)

stamped_before : (w upper : ℕ) (ws : Weighted) → w < upper → Each (λ u. u.time < upper) (stamped w ws)
stamped_before w upper [] h = tt
stamped_before w upper (x ∷ ws) h = (h, stamped_before w upper ws h)

-- and have their weights
weights-stamped : (w : ℕ) (ws : Weighted) → weights (stamped w ws) ≡ ws
weights-stamped w [] = refl
weights-stamped w (x ∷ ws) = ap (λ vs. x ∷ vs) (weights-stamped w ws)

-- what holds of two lists holds of both, one behind the other
each_both : (P : Update → Type 0) (us vs : List Update) → Each P us → Each P vs → Each P (us ++ vs)
each_both P [] vs h k = k
each_both P (u ∷ us) vs h k = (h.0, each_both P us vs h.1 k)

-- what ends before a time ends before a later one
ends_later : (upper w : ℕ) (us : List Update) → upper ≤ w → Each (λ u. u.time < upper) us → Each (λ u. u.time < w) us
ends_later upper w [] h k = tt
ends_later upper w (u ∷ us) h k = (omega (arith, h, k.0), ends_later upper w us h k.1)

-- stamped rows are in order
ordered_stamped : (w : ℕ) (ws : Weighted) → IsOrdered (stamped w ws)
ordered_stamped w [] = tt
ordered_stamped w (x ∷ ws) = (stamped_from w w ws (omega arith), ordered_stamped w ws)

-- and so behind updates that end before them
ordered_behind : (upper w : ℕ) (us : List Update) (ws : Weighted) → IsOrdered us → Each (λ u. u.time < upper) us → upper ≤ w → IsOrdered (us ++ stamped w ws)
ordered_behind upper w [] ws h k l = ordered_stamped w ws
ordered_behind upper w (u ∷ us) ws h k l =
    (each_both (λ v. u.time ≤ v.time) us (stamped w ws) h.0 (stamped_from u.time w ws (omega (arith, k.0, l))), ordered_behind upper w us ws h.1 k.1 l)

-- before their time they aren't there
contents_earlier : (t w : ℕ) (us : List Update) (ws : Weighted) → t < w → contents t (us ++ stamped w ws) ≡ contents t us
contents_earlier t w us ws h =
    contents-append t us (stamped w ws)
    ∙ ap (λ vs. contents t us ++ vs) (contents-from t w (stamped w ws) (record { each = stamped_from w w ws (omega arith) }) h)
    ∙ append-nil (contents t us)

-- from it on they are
contents_later : (t w : ℕ) (us : List Update) (ws : Weighted) → w ≤ t → contents t (us ++ stamped w ws) ≡ contents t us ++ ws
contents_later t w us ws h =
    contents-append t us (stamped w ws)
    ∙ ap (λ vs. contents t us ++ vs) (contents-before t (t + 1) (stamped w ws) (record { each = stamped_before w (t + 1) ws (omega arith) }) (omega arith) ∙ weights-stamped w ws)

-- so a row is there as often as in both
count_later : (t w : ℕ) (us : List Update) (changes : Counts) (row : List Datum) → w ≤ t
    → count row (contents t (us ++ stamped w (entries changes))) ≡ count_in (bag_of (contents t us)) row +ℤ count_in changes row
count_later t w us changes row h =
    ap (count row) (contents_later t w us (entries changes) h) ∙ count-append row (contents t us) (entries changes)
    ∙ (λ i. sym (count_in-bag_of (contents t us) row) i +ℤ count-entries changes row i)

-- within the bound, where the changes are taken
fits_appended : (since upper w : ℕ) (us : List Update) (changes : Counts) → FitsFrom since us → TakesChanges w changes (book us since upper) → FitsFrom since (us ++ stamped w (entries changes))
fits_appended since upper w us changes h takes = record { fits = λ t row k. by t row k (nat_le w t) refl }
  where
    by : (t : ℕ) (row : List Datum) → since ≤ t → (c : Bool) → nat_le w t ≡ c → Fits (count row (contents t (us ++ stamped w (entries changes))))
    by t row k true e =
        let from : w ≤ t = grind (arith, nat_tests) in
        subst Fits (sym (count_later t w us changes row from)) ((takes.fits t k from).fits row)
    by t row k false e =
        let below : t < w = grind (arith, nat_tests) in
        subst (λ ws. Fits (count row ws)) (sym (contents_earlier t w us (entries changes) below)) (h.fits t row k)

pub kept_appended : (us : List Update) (since upper w : ℕ) (changes : Counts) → IsKept (book us since upper) → upper ≤ w → TakesChanges w changes (book us since upper)
    → IsKept (book (us ++ stamped w (entries changes)) since (w + 1))
kept_appended us since upper w changes is later takes = record {
  ordered = ordered_behind upper w us (entries changes) is.ordered is.before.each later;
  before = record { each = each_both (λ u. u.time < w + 1) us (stamped w (entries changes)) (ends_later upper (w + 1) us (omega arith) is.before.each) (stamped_before w (w + 1) (entries changes) (omega arith)) };
  fits = fits_appended since upper w us changes is.fits takes;
}

-- and the table has the changes from their time on
pub appended : (us : List Update) (since upper w : ℕ) (changes : Counts) → IsAppended w changes (book us since upper) (book (us ++ stamped w (entries changes)) since (w + 1))
appended us since upper w changes = record {
  since = refl;
  upper = refl;
  earlier = λ t k h. ap bag_of (contents_earlier t w us (entries changes) h);
  later = λ t k h. same_counts _ _ (IsBag-bag_of (contents t (us ++ stamped w (entries changes)))) (IsBag-sum_of (bag_of (contents t us)) changes) (λ q.
      count_in-bag_of (contents t (us ++ stamped w (entries changes))) q ∙ count_later t w us changes q h ∙ sym (count_in-sum_of (bag_of (contents t us)) changes q));
}

-- ---- marks

-- the first so many stay where more comes behind
pub kept_mark : (n : ℕ) (us vs : List Update) (since upper : ℕ) → n ≤ length us → IsKept (book (take n us) since upper) → IsKept (book (take n (us ++ vs)) since upper)
kept_mark n us vs since upper h is = subst (λ ws. IsKept (book ws since upper)) (sym (take-append-le n us vs h)) is

-- all of them are the whole
pub kept_whole : (us : List Update) (since upper : ℕ) → IsKept (book us since upper) → IsKept (book (take (length us) us) since upper)
kept_whole us since upper is = subst (λ ws. IsKept (book ws since upper)) (sym (take-length us)) is

-- so a store keeps both its table and the marked one, where changes are appended
pub kept_store : (us vs : List Update) (since upper w number n marked_since marked_upper : ℕ) (changes : Counts) → vs ≡ us ++ stamped w (entries changes) → number ≡ w
    → n ≤ length us → IsKept (book us since upper) → IsKept (book (take n us) marked_since marked_upper) → upper ≤ w → TakesChanges w changes (book us since upper)
    → (n ≤ length vs) × IsKept (book vs since (number + 1)) × IsKept (book (take n vs) marked_since marked_upper)
kept_store us vs since upper w number n marked_since marked_upper changes new same h is marked later takes =
    subst (λ (p : List Update × ℕ). (n ≤ length p.0) × IsKept (book p.0 since (p.1 + 1)) × IsKept (book (take n p.0) marked_since marked_upper)) (sym (λ i. (new i, same i)))
    (omega (arith, h, length-append us (stamped w (entries changes))), kept_appended us since upper w changes is later takes, kept_mark n us (stamped w (entries changes)) marked_since marked_upper h marked)

-- and appends them
pub store_appended : (us vs : List Update) (since upper w number : ℕ) (changes : Counts) → vs ≡ us ++ stamped w (entries changes) → number ≡ w
    → IsAppended w changes (book us since upper) (book vs since (number + 1))
store_appended us vs since upper w number changes new same =
    subst (λ (p : List Update × ℕ). IsAppended w changes (book us since upper) (book p.0 since (p.1 + 1))) (sym (λ i. (new i, same i))) (appended us since upper w changes)

-- ---- a later since

-- what fits from a time on fits from a later one on
pub fits_later : (since later : ℕ) (us : List Update) → since ≤ later → FitsFrom since us → FitsFrom later us
fits_later since later us h fits = record { fits = λ t row k. fits.fits t row (omega (arith, h, k)) }

pub kept_later : (us : List Update) (since later upper : ℕ) → since ≤ later → IsKept (book us since upper) → IsKept (book us later upper)
kept_later us since later upper h is = record { ordered = is.ordered; before = is.before; fits = fits_later since later us h is.fits }

-- ---- folding

-- moved up to the since, updates contain within the bound what they did
fits_compacted : (since : ℕ) (us : List Update) → FitsFrom since us → FitsFrom since (compacted since us)
fits_compacted since us h = record { fits = λ t row k. subst (λ ws. Fits (count row ws)) (sym (contents-compacted since t us k)) (h.fits t row k) }

-- so they can be added up
pub sums_compacted : (since : ℕ) (us : List Update) → FitsFrom since us → HasSums (compacted since us)
sums_compacted since us h = sums_from since (compacted since us) (IsFrom-compacted since us) (fits_compacted since us h)

-- of two that are in order the first isn't later
less_time : (u v : Update) → update_cmp u v ≡ Less → u.time ≤ v.time
less_time u v h = by (nat_cmp u.time v.time) (ranked u.time v.time (nat_cmp u.time v.time) refl) h
  where
    by : (r : Ordering) → MatchOrdering r (u.time < v.time) (u.time ≡ v.time) (v.time < u.time) → ordering_then r (row_cmp u.row v.row) ≡ Less → u.time ≤ v.time
    by Less m k = omega (arith, m)
    by Equal m k = omega (arith, m)
    by Greater m k = absurd (cc)

times_rise : (u : Update) (us : List Update) → Each (λ v. update_cmp u v ≡ Less) us → Each (λ v. u.time ≤ v.time) us
times_rise u [] h = tt
times_rise u (v ∷ us) h = (less_time u v h.0, times_rise u us h.1)

-- so consolidated updates are in order of their times
strict_ordered : (us : List Update) → IsStrictlySortedBy update_cmp us → IsOrdered us
unfolding IsStrictlySortedBy
strict_ordered [] h = tt
strict_ordered (u ∷ us) h = (times_rise u us h.0, strict_ordered us h.1)

-- folded updates are kept
pub kept_folded : (us ws : List Update) (since upper : ℕ) → FitsFrom since us → SameContents ws (compacted since us) → IsConsolidated ws → IsBefore upper ws → IsKept (book ws since upper)
kept_folded us ws since upper fits same once before = record {
  ordered = strict_ordered ws once.in_order;
  before = before;
  fits = record { fits = λ t row k. subst Fits (sym (same.counts t row ∙ ap (count row) (contents-compacted since t us k))) (fits.fits t row k) };
}

-- and contain the same from the since on
pub same_folded : (us ws : List Update) (since : ℕ) → SameContents ws (compacted since us) → SameFrom since ws us
same_folded us ws since same = record { counts = λ t row k. same.counts t row ∙ ap (count row) (contents-compacted since t us k) }

-- so the table is the same there
pub compacted_table : (us ws : List Update) (since later upper : ℕ) → SameFrom later ws us → IsCompacted later (book us since upper) (book ws later upper)
compacted_table us ws since later upper same = record {
  since = refl;
  upper = refl;
  same = λ t k. same_counts _ _ (IsBag-bag_of (contents t ws)) (IsBag-bag_of (contents t us)) (λ q.
      count_in-bag_of (contents t ws) q ∙ same.counts t q k ∙ sym (count_in-bag_of (contents t us) q));
}
