-- What is arranged stays so where updates go among the rows, where more come behind them, and where the since moves.
use Rattle.std.proofs.Common.{◌≡◌, ℕ, ◌+◌, ◌<◌, ◌≤◌, ◌&&◌, nat_le, nat_lt, Bool, true, false, cond, ◌+ℤ◌, List, [], ◌∷◌, ◌++◌, refl, sym, ap, subst, ◌∙◌, arith}
use Rattle.std.proofs.lemmas.List.{append_assoc}
use Rattle.std.proofs.lemmas.Bool.Decides.{nat_tests}
use Rattle.std.proofs.lemmas.Int.{ints}
use Rattle.std.specs.FinMap.{entries}
use Rattle.std.specs.Result.{OnErr}
use Rattle.std.specs.declared.result.Result.{Result}
use Rattle.std.specs.declared.result.Result.TheVariants.{Ok, Err}
use Rattle.std.specs.List.{AllByRecursion as Each}
use Rattle.mz_value.specs.declared.datum.Datum.{Datum}
use Rattle.mz_bag.specs.Bag.{count_in, Fits, IsStored}
use Rattle.mz_bag.specs.Mass.{IsLight}
use Rattle.mz_bag.specs.Weighted.{Weighted, count, bag_of}
use Rattle.mz_bag.proofs.BagLaws.{bag_of-same, count-append, count-entries, count_in-bag_of, sum_of-bag_of, IsBag-bag_of}
use Rattle.mz_bag.proofs.MassLaws.{light_fits}
use Rattle.mz_updates.specs.declared.update.Update.{Update}
use Rattle.mz_updates.specs.Contents.{weights, up_to, contents, between, stamped, FitsAt, FitsFrom, IsBefore, SameFrom}
use Rattle.mz_updates.proofs.ContentsLaws.{contents-append, contents-before}
use Rattle.mz_updates.proofs.LightLists.{light_contents}
use Rattle.mz_arrange.specs.Arranged.{rows_at, IsFresh, IsInserted, IsSameFrom, TakesUpdates}
use Rattle.mz_arrange.specs.Kept.{arranged, behind, IsKept, SameRows}

-- ---- rows and updates behind them

-- rows at the first time are there at every time
stamped_first : (t : ℕ) (ws : Weighted) → Each (λ u. u.time < t + 1) (stamped 0 ws)
stamped_first t [] = tt
stamped_first t (w ∷ ws) = (omega arith, stamped_first t ws)

weights-stamped : (ws : Weighted) → weights (stamped 0 ws) ≡ ws
weights-stamped [] = refl
weights-stamped (w ∷ ws) = ap (λ vs. w ∷ vs) (weights-stamped ws)

pub contents-stamped : (t : ℕ) (ws : Weighted) → contents t (stamped 0 ws) ≡ ws
contents-stamped t ws = contents-before t (t + 1) (stamped 0 ws) (record { each = stamped_first t ws }) (omega arith) ∙ weights-stamped ws

-- so the rows are there, and what the updates contain
pub contents-behind : (t : ℕ) (rows : Weighted) (later : List Update) → contents t (behind rows later) ≡ rows ++ contents t later
contents-behind t rows later = contents-append t (stamped 0 rows) later ∙ ap (λ ws. ws ++ contents t later) (contents-stamped t rows)

-- each row as often as in both
count-behind : (t : ℕ) (rows : Weighted) (later : List Update) (row : List Datum)
    → count row (contents t (behind rows later)) ≡ count row rows +ℤ count row (contents t later)
count-behind t rows later row = ap (count row) (contents-behind t rows later) ∙ count-append row rows (contents t later)

-- ---- what goes among the rows

-- of light updates a bag can have what they contain
pub fits_light : (since : ℕ) (us : List Update) → IsLight (weights us) → FitsAt since us
fits_light since us light = record { fits = λ row. light_fits (contents since us) row ((light_contents 0 us light).light since (omega arith)) }

-- and the rows with it are within the bound, since all is
pub fits_with : (since : ℕ) (rows : Weighted) (later : List Update) → FitsFrom since (behind rows later)
    → (row : List Datum) → Fits (count row rows +ℤ count_in (bag_of (contents since later)) row)
fits_with since rows later h row =
    subst Fits (count-behind since rows later row ∙ ap (λ z. count row rows +ℤ z) (sym (count_in-bag_of (contents since later) row)))
    (h.fits since row (omega arith))

-- what is there at a time is what is there at an earlier one, and what came after that
count-since : (since t upper : ℕ) (row : List Datum) (us : List Update) → since ≤ t → Each (λ u. u.time < upper) us
    → count row (contents t us) ≡ count row (contents since us) +ℤ count row (contents t (between (since + 1) upper us))
count-since since t upper row [] h k = omega (arith, ints)
count-since since t upper row (u ∷ us) h k =
    by (nat_le u.time since) (nat_le u.time t) (nat_le (since + 1) u.time && nat_lt u.time upper) refl refl refl (count-since since t upper row us h k.1)
  where
    after : List Update
    after = between (since + 1) upper us

    by : (c d e : Bool) → nat_le u.time since ≡ c → nat_le u.time t ≡ d → (nat_le (since + 1) u.time && nat_lt u.time upper) ≡ e
        → count row (contents t us) ≡ count row (contents since us) +ℤ count row (contents t (between (since + 1) upper us))
        → count row (weights (cond d (u ∷ up_to t us) (up_to t us)))
        ≡ count row (weights (cond c (u ∷ up_to since us) (up_to since us)))
        +ℤ count row (contents t (cond e (u ∷ between (since + 1) upper us) (between (since + 1) upper us)))
    by true true false e f g rest = omega (arith, ints, rest)
    by false true true e f g rest =
        let is : count row (contents t (u ∷ between (since + 1) upper us)) ≡ count row ((u.row, u.diff) ∷ contents t (between (since + 1) upper us)) =
        ap (λ b. count row (weights (cond b (u ∷ up_to t (between (since + 1) upper us)) (up_to t (between (since + 1) upper us))))) f in
        omega (arith, ints, rest, is)
    by false false true e f g rest =
        let is : count row (contents t (u ∷ between (since + 1) upper us)) ≡ count row (contents t (between (since + 1) upper us)) =
        ap (λ b. count row (weights (cond b (u ∷ up_to t (between (since + 1) upper us)) (up_to t (between (since + 1) upper us))))) f in
        omega (arith, ints, rest, is)
    by true true true e f g rest = absurd (grind (arith, nat_tests))
    by true false d e f g rest = absurd (grind (arith, nat_tests))
    by false d false e f g rest = let below : u.time < upper = k.0 in absurd (grind (arith, nat_tests))

-- so with the contents at the since among the rows, and the later updates behind them, all is as before from there on
pub same_taken : (since upper : ℕ) (rows taken : Weighted) (later : List Update) → SameRows taken (rows ++ entries (bag_of (contents since later))) → IsBefore upper later
    → SameFrom since (behind taken (between (since + 1) upper later)) (behind rows later)
same_taken since upper rows taken later same before = record {
  counts = λ t row h.
      let due = entries (bag_of (contents since later)) in
      let rest = between (since + 1) upper later in
      let both : count row taken ≡ count row rows +ℤ count row due = same.counts row ∙ count-append row rows due in
      let is : count row due ≡ count row (contents since later) = count-entries (bag_of (contents since later)) row ∙ count_in-bag_of (contents since later) row in
      let split = count-since since t upper row later h before.each in
      let new = count-behind t taken rest row in
      let old = count-behind t rows later row in
      omega (arith, ints, both, is, split, new, old);
}

-- and where each row is there as often, all is as before
pub same_rows : (since : ℕ) (rows others : Weighted) (later : List Update) → SameRows others rows → SameFrom since (behind others later) (behind rows later)
same_rows since rows others later same = record {
  counts = λ t row h. count-behind t others later row ∙ ap (λ z. z +ℤ count row (contents t later)) (same.counts row) ∙ sym (count-behind t rows later row);
}

-- and they are before the upper
each_between : (lower upper top : ℕ) (us : List Update) → Each (λ u. u.time < top) us → Each (λ u. u.time < top) (between lower upper us)
each_between lower upper top [] h = tt
each_between lower upper top (u ∷ us) h = by (nat_le lower u.time && nat_lt u.time upper) (each_between lower upper top us h.1)
  where
    by : (c : Bool) → Each (λ u. u.time < top) (between lower upper us) → Each (λ u. u.time < top) (cond c (u ∷ between lower upper us) (between lower upper us))
    by true rest = (h.0, rest)
    by false rest = rest

pub before_taken : (lower upper : ℕ) (us : List Update) → IsBefore upper us → IsBefore upper (between lower upper us)
before_taken lower upper us h = record { each = each_between lower upper upper us h.each }

-- what isn't touched is the same
pub same_itself : (since : ℕ) (us : List Update) → SameFrom since us us
same_itself since us = record { counts = λ t row h. refl }

-- and stays within the bound
pub fits_same : (since : ℕ) (us ws : List Update) → SameFrom since ws us → FitsFrom since us → FitsFrom since ws
fits_same since us ws same h = record { fits = λ t row k. subst Fits (sym (same.counts t row k)) (h.fits t row k) }

pub rows_same : (since upper : ℕ) (us ws : List Update) → SameFrom since ws us → IsSameFrom since (arranged us since upper) (arranged ws since upper)
rows_same since upper us ws same = record {
  since = refl;
  upper = refl;
  rows = λ t k. bag_of-same (contents t ws) (contents t us) (λ q. same.counts t q k);
}

-- ---- updates behind others

each_later : (old next : ℕ) (us : List Update) → old ≤ next → Each (λ u. u.time < old) us → Each (λ u. u.time < next) us
each_later old next [] h k = tt
each_later old next (u ∷ us) h k = (omega (arith, h, k.0), each_later old next us h k.1)

each_both : (P : Update → Type 0) (us vs : List Update) → Each P us → Each P vs → Each P (us ++ vs)
each_both P [] vs h k = k
each_both P (u ∷ us) vs h k = (h.0, each_both P us vs h.1 k)

-- within the bound, where they are taken
fits_behind : (since upper : ℕ) (us vs ws : List Update) → SameFrom since ws us → TakesUpdates vs (arranged us since upper) → FitsFrom since (ws ++ vs)
fits_behind since upper us vs ws same takes = record {
  fits = λ t row k.
      let first = count_in-bag_of (contents t us) row in
      let second = count_in-bag_of (contents t vs) row in
      let both : count row (contents t (ws ++ vs)) ≡ count row (contents t ws) +ℤ count row (contents t vs) =
      ap (count row) (contents-append t ws vs) ∙ count-append row (contents t ws) (contents t vs) in
      let all : count_in (bag_of (contents t us)) row +ℤ count_in (bag_of (contents t vs)) row ≡ count row (contents t (ws ++ vs)) =
      omega (arith, ints, first, second, both, same.counts t row k) in
      subst Fits all ((takes.fits t k).fits row);
}

pub kept_inserted : (rows : Weighted) (later us vs : List Update) (since upper next : ℕ) → SameFrom since (behind rows later) us → IsBefore upper later → IsBefore next vs
    → upper ≤ next → TakesUpdates vs (arranged us since upper) → IsKept rows (later ++ vs) since next
kept_inserted rows later us vs since upper next same before ends h takes = record {
  before = record { each = each_both (λ u. u.time < next) later vs (each_later upper next later h before.each) ends.each };
  fits = subst (FitsFrom since) (append_assoc (stamped 0 rows) later vs) (fits_behind since upper us vs (behind rows later) same takes);
}

-- each row is there as often as in both
pub inserted : (rows : Weighted) (later us vs : List Update) (since upper next : ℕ) → SameFrom since (behind rows later) us
    → IsInserted vs next (arranged us since upper) (arranged (behind rows (later ++ vs)) since next)
inserted rows later us vs since upper next same = record {
  since = refl;
  upper = refl;
  rows = λ t k.
      ap (λ ws. bag_of (contents t ws)) (sym (append_assoc (stamped 0 rows) later vs))
      ∙ bag_of-same (contents t (behind rows later ++ vs)) (contents t us ++ contents t vs) (λ q.
      ap (count q) (contents-append t (behind rows later) vs) ∙ count-append q (contents t (behind rows later)) (contents t vs)
      ∙ ap (λ z. z +ℤ count q (contents t vs)) (same.counts t q k) ∙ sym (count-append q (contents t us) (contents t vs)))
      ∙ sym (sum_of-bag_of (contents t us) (contents t vs));
}

-- ---- a later since

-- what is kept from a time on is kept from a later one on
pub kept_later : (rows : Weighted) (later : List Update) (since oldest upper : ℕ) → since ≤ oldest → IsKept rows later since upper → IsKept rows later oldest upper
kept_later rows later since oldest upper h is = record { before = is.before; fits = record { fits = λ t row k. is.fits.fits t row (omega (arith, h, k)) } }

-- ---- bounds

-- the rows that are kept are a bag's from the since on
pub rows_stored : (us : List Update) (since upper : ℕ) → FitsFrom since us → (t : ℕ) → since ≤ t → IsStored (rows_at (arranged us since upper) t)
rows_stored us since upper fits t h = record {
  no_zero = IsBag-bag_of (contents t us);
  fits = λ row. subst Fits (sym (count_in-bag_of (contents t us) row)) (fits.fits t row h);
}

-- ---- errors

-- what holds in any case holds after an error
pub after_error : {T E P : Type 0} (r : Result T E) → P → OnErr r P
after_error (Ok x) p = tt
after_error (Err e) p = p

-- ---- no row

-- where nothing is kept there is no row
kept_none : (since upper : ℕ) → IsKept [] [] since upper
kept_none since upper = record {
  before = record { each = tt };
  fits = record { fits = λ t row h. record { low = omega (arith, ints); high = omega (arith, ints) } };
}

fresh_none : (as_of : ℕ) → IsFresh as_of (arranged (behind [] []) as_of as_of)
fresh_none as_of = record {
  since = refl;
  upper = refl;
  no_row = λ t. refl;
}

pub kept_fresh : (rows : Weighted) (later : List Update) (as_of : ℕ) → rows ≡ [] → later ≡ [] → IsKept rows later as_of as_of
kept_fresh rows later as_of no_row no_update = subst (λ (p : Weighted × List Update). IsKept p.0 p.1 as_of as_of) (sym (λ i. (no_row i, no_update i))) (kept_none as_of as_of)

pub is_fresh : (rows : Weighted) (later : List Update) (as_of : ℕ) → rows ≡ [] → later ≡ [] → IsFresh as_of (arranged (behind rows later) as_of as_of)
is_fresh rows later as_of no_row no_update = subst (λ (p : Weighted × List Update). IsFresh as_of (arranged (behind p.0 p.1) as_of as_of)) (sym (λ i. (no_row i, no_update i))) (fresh_none as_of)
