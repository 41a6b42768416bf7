-- What changes at one time lies between what is there before it and after it.
use Rattle.std.proofs.Common.{◌≡◌, ℕ, zero, suc, ◌+◌, ◌<◌, ◌≤◌, nat_le, Bool, true, false, pos, ◌+ℤ◌, List, ◌++◌, FitsSigned, refl, sym, ap, ◌∙◌, subst, add-one, rules, arith}
use Rattle.std.proofs.lemmas.Bool.Decides.{nat_tests}
use Rattle.std.proofs.lemmas.Int.{ints}
use Rattle.std.specs.Int.{w128}
use Rattle.mz_value.specs.declared.datum.Datum.{Datum}
use Rattle.mz_bag.specs.Mass.{IsLight}
use Rattle.mz_bag.specs.Weighted.{Weighted, count}
use Rattle.mz_bag.proofs.BagLaws.{count-append}
use Rattle.mz_bag.proofs.MassLaws.{light_fits}
use Rattle.mz_plan_laws.specs.Alike.{Alike}
use Rattle.mz_updates.specs.declared.update.Update.{Update}
use Rattle.mz_updates.specs.Contents.{changes, contents, weights, HasSums, IsBefore, IsFrom}
use Rattle.mz_updates.proofs.ContentsLaws.{changes-from, contents-append, contents-before, contents-from, count-at_first, count-at_next}
use Rattle.mz_updates.proofs.RowBags.{difference_fits}

-- updates from a time on have sums, where they lead from light rows to light rows at each time
pub sums_between : (lower : ℕ) (us : List Update) (rows : ℕ → Weighted) → IsFrom lower us
    → ((t : ℕ) → lower ≤ t → Alike (rows (t + 1)) (rows t ++ changes t us)) → ((t : ℕ) → lower ≤ t → IsLight (rows t)) → HasSums us
sums_between lower us rows from on light = record { fits = λ t row. by t row (nat_le lower t) refl }
  where
    none : FitsSigned w128 (pos 0)
    none = search (rules, ints)

    by : (t : ℕ) (row : List Datum) (c : Bool) → nat_le lower t ≡ c → FitsSigned w128 (count row (changes t us))
    by t row true e =
        let low : lower ≤ t = grind (arith, nat_tests) in
        let high : lower ≤ t + 1 = omega (arith, low) in
        difference_fits (count row (rows t)) (count row (rows (t + 1))) (count row (changes t us))
        (light_fits (rows t) row (light t low)) (light_fits (rows (t + 1)) row (light (t + 1) high))
        (on t low row ∙ count-append row (rows t) (changes t us))
    by t row false e =
        let early : t < lower = grind (arith, nat_tests) in
        subst (λ ws. FitsSigned w128 (count row ws)) (sym (changes-from t lower us from early)) none

-- before the time that they begin at they contain nothing, and at it what changes then
contents_first : (t : ℕ) (lower : ℕ) (row : List Datum) (us : List Update) → IsFrom lower us → t < lower
    → count row (contents (suc t) us) ≡ count row (changes (suc t) us)
contents_first t lower row us from early =
    let none : count row (contents t us) ≡ pos 0 = ap (count row) (contents-from t lower us from early) in
    omega (arith, ints, count-at_next t row us, none)

-- rows that begin with some, and go on by the changes, count as these with all that the updates contain
pub rows_there : (t lower : ℕ) (us : List Update) (rows : ℕ → Weighted) (row : List Datum) → IsFrom lower us
    → ((t : ℕ) → lower ≤ t → Alike (rows (t + 1)) (rows t ++ changes t us)) → lower ≤ t
    → count row (rows (t + 1)) ≡ count row (rows lower) +ℤ count row (contents t us)
rows_there zero lower us rows row from on low =
    let is : lower ≡ 0 = omega (arith, low) in
    let start : count row (rows lower) ≡ count row (rows 0) = ap (λ n. count row (rows n)) is in
    omega (arith, ints, on 0 low row, start, count-append row (rows 0) (changes 0 us), count-at_first row us)
rows_there (suc t) lower us rows row from on low = by (nat_le lower t) refl (rows_there t lower us rows row from on)
  where
    next : count row (rows (suc t + 1)) ≡ count row (rows (suc t)) +ℤ count row (changes (suc t) us)
    next = on (suc t) low row ∙ count-append row (rows (suc t)) (changes (suc t) us)

    by : (c : Bool) → nat_le lower t ≡ c → (lower ≤ t → count row (rows (t + 1)) ≡ count row (rows lower) +ℤ count row (contents t us))
        → count row (rows (suc t + 1)) ≡ count row (rows lower) +ℤ count row (contents (suc t) us)
    by true e before =
        let there : count row (rows (t + 1)) ≡ count row (rows lower) +ℤ count row (contents t us) = before (grind (arith, nat_tests)) in
        let same : count row (rows (suc t)) ≡ count row (rows (t + 1)) = ap (λ n. count row (rows n)) (sym (add-one t)) in
        omega (arith, ints, next, there, same, count-at_next t row us)
    by false e before =
        let early : t < lower = grind (arith, nat_tests) in
        let is : lower ≡ suc t = omega (arith, early, low) in
        let start : count row (rows lower) ≡ count row (rows (suc t)) = ap (λ n. count row (rows n)) is in
        omega (arith, ints, next, start, contents_first t lower row us from early)

-- and rows that count so go on by the changes
pub rows_on : (t lower : ℕ) (us : List Update) (rows : ℕ → Weighted) → IsFrom lower us
    → ((t : ℕ) (row : List Datum) → lower ≤ t → count row (rows (t + 1)) ≡ count row (rows lower) +ℤ count row (contents t us)) → lower ≤ t
    → Alike (rows (t + 1)) (rows t ++ changes t us)
rows_on zero lower us rows from all low row =
    let is : lower ≡ 0 = omega (arith, low) in
    let start : count row (rows lower) ≡ count row (rows 0) = ap (λ n. count row (rows n)) is in
    omega (arith, ints, all 0 row low, start, count-append row (rows 0) (changes 0 us), count-at_first row us)
rows_on (suc t) lower us rows from all low row = by (nat_le lower t) refl
  where
    by : (c : Bool) → nat_le lower t ≡ c → count row (rows (suc t + 1)) ≡ count row (rows (suc t) ++ changes (suc t) us)
    by true e =
        let there : count row (rows (t + 1)) ≡ count row (rows lower) +ℤ count row (contents t us) = all t row (grind (arith, nat_tests)) in
        let same : count row (rows (suc t)) ≡ count row (rows (t + 1)) = ap (λ n. count row (rows n)) (sym (add-one t)) in
        omega (arith, ints, all (suc t) row low, there, same, count-at_next t row us, count-append row (rows (suc t)) (changes (suc t) us))
    by false e =
        let early : t < lower = grind (arith, nat_tests) in
        let is : lower ≡ suc t = omega (arith, early, low) in
        let start : count row (rows lower) ≡ count row (rows (suc t)) = ap (λ n. count row (rows n)) is in
        omega (arith, ints, all (suc t) row low, start, contents_first t lower row us from early, count-append row (rows (suc t)) (changes (suc t) us))

-- ---- lists that end before a time, and go on from it

-- from the time on they contain all that the first has
pub contents_behind : (t upper : ℕ) (us more : List Update) (row : List Datum) → IsBefore upper us → upper ≤ t + 1
    → count row (contents t (us ++ more)) ≡ count row (weights us) +ℤ count row (contents t more)
contents_behind t upper us more row before late =
    ap (count row) (contents-append t us more) ∙ count-append row (contents t us) (contents t more)
    ∙ ap (λ ws. count row ws +ℤ count row (contents t more)) (contents-before t upper us before late)
