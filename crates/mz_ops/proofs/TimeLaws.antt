-- Lists of updates at one time, and lists that contain the same.
use Rattle.std.proofs.Common.{◌≡◌, ℕ, zero, suc, ◌+◌, ◌<◌, ◌≤◌, ◌==◌, nat_le, Bool, true, false, cond, pos, ◌+ℤ◌, List, [], ◌∷◌, ◌++◌, FitsSigned, refl, sym, ap, subst, ◌∙◌, rules, arith}
use Rattle.std.proofs.lemmas.Bool.Decides.{nat_tests}
use Rattle.std.proofs.lemmas.Int.{ints}
use Rattle.std.proofs.lemmas.List.{append-nil}
use Rattle.std.specs.Int.{w128}
use Rattle.std.specs.List.{AllByRecursion as Each}
use Rattle.mz_value.specs.declared.datum.Datum.{Datum}
use Rattle.mz_bag.specs.Mass.{IsLight}
use Rattle.mz_bag.specs.Weighted.{Weighted, count}
use Rattle.mz_bag.proofs.BagLaws.{count-append}
use Rattle.mz_bag.proofs.MassLaws.{light_fits}
use Rattle.mz_plan_laws.specs.Alike.{Alike}
use Rattle.mz_updates.specs.declared.update.Update.{Update}
use Rattle.mz_updates.specs.Contents.{weights, contents, at, changes, stamped, HasSums, IsBefore, IsFrom, SameContents}
use Rattle.mz_updates.proofs.ContentsLaws.{contents-append, contents-before, changes-append, changes-from, count-at_first, count-at_next}
use Rattle.mz_updates.proofs.RowBags.{fits_signed}

-- ---- before and after

before_append : (upper : ℕ) (us vs : List Update) → Each (λ u. u.time < upper) us → Each (λ u. u.time < upper) vs → Each (λ u. u.time < upper) (us ++ vs)
before_append upper [] vs h k = k
before_append upper (u ∷ us) vs h k = (h.0, before_append upper us vs h.1 k)

pub IsBefore-append : (upper : ℕ) (us vs : List Update) → IsBefore upper us → IsBefore upper vs → IsBefore upper (us ++ vs)
IsBefore-append upper us vs h k = record { each = before_append upper us vs h.each k.each }

before_later : (upper later : ℕ) (us : List Update) → upper ≤ later → Each (λ u. u.time < upper) us → Each (λ u. u.time < later) us
before_later upper later [] h k = tt
before_later upper later (u ∷ us) h k = (omega (arith, h, k.0), before_later upper later us h k.1)

pub IsBefore-later : (upper later : ℕ) (us : List Update) → upper ≤ later → IsBefore upper us → IsBefore later us
IsBefore-later upper later us h k = record { each = before_later upper later us h k.each }

before_front : (upper : ℕ) (us vs : List Update) → Each (λ u. u.time < upper) (us ++ vs) → Each (λ u. u.time < upper) us
before_front upper [] vs h = tt
before_front upper (u ∷ us) vs h = (h.0, before_front upper us vs h.1)

pub IsBefore-front : (upper : ℕ) (us vs : List Update) → IsBefore upper (us ++ vs) → IsBefore upper us
IsBefore-front upper us vs h = record { each = before_front upper us vs h.each }

from_append : (lower : ℕ) (us vs : List Update) → Each (λ u. lower ≤ u.time) us → Each (λ u. lower ≤ u.time) vs → Each (λ u. lower ≤ u.time) (us ++ vs)
from_append lower [] vs h k = k
from_append lower (u ∷ us) vs h k = (h.0, from_append lower us vs h.1 k)

pub IsFrom-append : (lower : ℕ) (us vs : List Update) → IsFrom lower us → IsFrom lower vs → IsFrom lower (us ++ vs)
IsFrom-append lower us vs h k = record { each = from_append lower us vs h.each k.each }

from_earlier : (lower earlier : ℕ) (us : List Update) → earlier ≤ lower → Each (λ u. lower ≤ u.time) us → Each (λ u. earlier ≤ u.time) us
from_earlier lower earlier [] h k = tt
from_earlier lower earlier (u ∷ us) h k = (omega (arith, h, k.0), from_earlier lower earlier us h k.1)

pub IsFrom-earlier : (lower earlier : ℕ) (us : List Update) → earlier ≤ lower → IsFrom lower us → IsFrom earlier us
IsFrom-earlier lower earlier us h k = record { each = from_earlier lower earlier us h k.each }

-- after its end a list changes nothing
none_at : (t upper : ℕ) (us : List Update) → Each (λ u. u.time < upper) us → upper ≤ t → at t us ≡ []
none_at t upper [] h k = refl
none_at t upper (u ∷ us) h k =
    let is : (u.time == t) ≡ false = grind (arith, nat_tests, h.0) in
    ap (λ c. cond c (u ∷ at t us) (at t us)) is ∙ none_at t upper us h.1 k

pub changes-before : (t upper : ℕ) (us : List Update) → IsBefore upper us → upper ≤ t → changes t us ≡ []
changes-before t upper us h k = ap weights (none_at t upper us h.each k)

-- ---- at one time

pub weights-stamped : (t : ℕ) (ws : Weighted) → weights (stamped t ws) ≡ ws
weights-stamped t [] = refl
weights-stamped t (w ∷ ws) = ap (λ vs. w ∷ vs) (weights-stamped t ws)

stamped_before : (t upper : ℕ) (ws : Weighted) → t < upper → Each (λ u. u.time < upper) (stamped t ws)
stamped_before t upper [] h = tt
stamped_before t upper (w ∷ ws) h = (h, stamped_before t upper ws h)

pub IsBefore-stamped : (t upper : ℕ) (ws : Weighted) → t < upper → IsBefore upper (stamped t ws)
IsBefore-stamped t upper ws h = record { each = stamped_before t upper ws h }

stamped_from : (t lower : ℕ) (ws : Weighted) → lower ≤ t → Each (λ u. lower ≤ u.time) (stamped t ws)
stamped_from t lower [] h = tt
stamped_from t lower (w ∷ ws) h = (h, stamped_from t lower ws h)

pub IsFrom-stamped : (t lower : ℕ) (ws : Weighted) → lower ≤ t → IsFrom lower (stamped t ws)
IsFrom-stamped t lower ws h = record { each = stamped_from t lower ws h }

pub changes-stamped : (t : ℕ) (ws : Weighted) → changes t (stamped t ws) ≡ ws
changes-stamped t [] = refl
changes-stamped t (w ∷ ws) =
    let is : (t == t) ≡ true = grind (arith, nat_tests) in
    ap (λ c. weights (cond c (record { row = w.0; time = t; diff = w.1 } ∷ at t (stamped t ws)) (at t (stamped t ws)))) is ∙ ap (λ vs. w ∷ vs) (changes-stamped t ws)

-- light rows at one time behind updates before it have sums where these do
pub sums_more : (time : ℕ) (us : List Update) (ws : Weighted) → IsBefore time us → HasSums us → IsLight ws → HasSums (us ++ stamped time ws)
sums_more time us ws before sums light = record { fits = λ t row. by t row (nat_le t time) (t == time) refl refl }
  where
    at_time : (row : List Datum) → count row (changes time (us ++ stamped time ws)) ≡ count row ws
    at_time row = ap (count row) (changes-append time us (stamped time ws)
        ∙ (λ i. changes-before time time us before (omega arith) i ++ changes-stamped time ws i))

    early : (t : ℕ) (row : List Datum) → t < time → count row (changes t (us ++ stamped time ws)) ≡ count row (changes t us)
    early t row h = ap (count row) (changes-append t us (stamped time ws)
        ∙ ap (λ vs. changes t us ++ vs) (changes-from t time (stamped time ws) (IsFrom-stamped time time ws (omega arith)) h) ∙ append-nil (changes t us))

    late : (t : ℕ) (row : List Datum) → time < t → count row (changes t (us ++ stamped time ws)) ≡ pos 0
    late t row h = ap (count row) (changes-append t us (stamped time ws)
        ∙ (λ i. changes-before t time us before (omega (arith, h)) i ++ changes-before t (time + 1) (stamped time ws) (IsBefore-stamped time (time + 1) ws (omega arith)) (omega (arith, h)) i))

    none : FitsSigned w128 (pos 0)
    none = search (rules, ints)

    by : (t : ℕ) (row : List Datum) (c d : Bool) → nat_le t time ≡ c → (t == time) ≡ d → FitsSigned w128 (count row (changes t (us ++ stamped time ws)))
    by t row c true e f =
        let same : t ≡ time = grind (arith, nat_tests) in
        subst (λ n. FitsSigned w128 (count row (changes n (us ++ stamped time ws)))) (sym same)
        (subst (FitsSigned w128) (sym (at_time row)) (fits_signed (count row ws) (light_fits ws row light)))
    by t row true false e f =
        let less : t < time = grind (arith, nat_tests) in
        subst (FitsSigned w128) (sym (early t row less)) (sums.fits t row)
    by t row false false e f =
        let more : time < t = grind (arith, nat_tests) in
        subst (FitsSigned w128) (sym (late t row more)) none

-- ---- lists that contain the same

-- they change the same at each time
pub same_change : (us vs : List Update) → SameContents us vs → (t : ℕ) → Alike (changes t us) (changes t vs)
same_change us vs same zero q = sym (count-at_first q us) ∙ same.counts 0 q ∙ count-at_first q vs
same_change us vs same (suc t) q = omega (arith, ints, count-at_next t q us, count-at_next t q vs, same.counts (suc t) q, same.counts t q)

-- and are the same behind a list
again : (us ws xs : List Update) → SameContents ws xs → (t : ℕ) → Alike (contents t (us ++ ws)) (contents t (us ++ xs))
again us ws xs same t q =
    ap (count q) (contents-append t us ws) ∙ count-append q (contents t us) (contents t ws)
    ∙ ap (λ z. count q (contents t us) +ℤ z) (same.counts t q)
    ∙ sym (ap (count q) (contents-append t us xs) ∙ count-append q (contents t us) (contents t xs))

pub same_behind : (us ws xs : List Update) → SameContents ws xs → SameContents (us ++ ws) (us ++ xs)
same_behind us ws xs same = record { counts = λ t q. again us ws xs same t q }

-- and in all
pub same_weights : (upper : ℕ) (us vs : List Update) → SameContents us vs → IsBefore upper us → IsBefore upper vs → Alike (weights us) (weights vs)
same_weights upper us vs same h k q =
    sym (ap (count q) (contents-before upper upper us h (omega arith))) ∙ same.counts upper q ∙ ap (count q) (contents-before upper upper vs k (omega arith))
