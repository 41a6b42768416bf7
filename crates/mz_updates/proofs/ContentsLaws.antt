-- Contents of lists one after another, before and after a time, and after a compaction.
use Rattle.std.proofs.Common.{◌≡◌, ℕ, zero, suc, ◌+◌, ◌<◌, ◌≤◌, ◌==◌, ◌&&◌, add-one, nat_le, nat_lt, Bool, true, false, cond, ℤ, pos, ◌+ℤ◌, List, [], ◌∷◌, ◌++◌, filter, refl, sym, ap, ◌∙◌, arith}
use Rattle.std.proofs.lemmas.Bool.Decides.{nat_tests}
use Rattle.std.proofs.lemmas.Int.{ints}
use Rattle.std.specs.List.{AllByRecursion as Each}
use Rattle.mz_value.specs.declared.datum.Datum.{Datum}
use Rattle.mz_value.specs.Row.{row_eq}
use Rattle.mz_bag.specs.Weighted.{count}
use Rattle.mz_updates.specs.declared.update.Update.{Update}
use Rattle.mz_updates.specs.Contents.{weights, up_to, contents, at, changes, between, later, moved_up, compacted, IsBefore, IsFrom, SameContents, SameFrom}

-- a test on numbers, from what it tests
le_true : (a b : ℕ) → a ≤ b → nat_le a b ≡ true
le_true a b h = grind (arith, nat_tests)

le_false : (a b : ℕ) → b < a → nat_le a b ≡ false
le_false a b h = grind (arith, nat_tests)

-- ---- one list behind another

-- the rows of both are those of the first, and then of the second
pub weights-append : (us vs : List Update) → weights (us ++ vs) ≡ weights us ++ weights vs
weights-append [] vs = refl
weights-append (u ∷ us) vs = ap (λ ws. (u.row, u.diff) ∷ ws) (weights-append us vs)

-- what passes a test in both is what passes in the first, and then in the second
pub filter-both : (p : Update → Bool) (us vs : List Update) → filter p (us ++ vs) ≡ filter p us ++ filter p vs
filter-both p [] vs = refl
filter-both p (u ∷ us) vs = by (p u) (filter-both p us vs)
  where
    by : (c : Bool) → filter p (us ++ vs) ≡ filter p us ++ filter p vs → cond c (u ∷ filter p (us ++ vs)) (filter p (us ++ vs)) ≡ cond c (u ∷ filter p us) (filter p us) ++ filter p vs
    by true h = ap (λ ws. u ∷ ws) h
    by false h = h

-- so both contain what the first does, and then what the second does
pub contents-append : (t : ℕ) (us vs : List Update) → contents t (us ++ vs) ≡ contents t us ++ contents t vs
contents-append t us vs = ap weights (filter-both (λ u. nat_le u.time t) us vs) ∙ weights-append (up_to t us) (up_to t vs)

-- and change what both do
pub changes-append : (t : ℕ) (us vs : List Update) → changes t (us ++ vs) ≡ changes t us ++ changes t vs
changes-append t us vs = ap weights (filter-both (λ u. u.time == t) us vs) ∙ weights-append (at t us) (at t vs)

-- ---- before and after a time

-- a list that ends before a time has no update behind it
all_up_to : (t upper : ℕ) (us : List Update) → Each (λ u. u.time < upper) us → upper ≤ t + 1 → up_to t us ≡ us
all_up_to t upper [] h k = refl
all_up_to t upper (u ∷ us) h k =
    let is : nat_le u.time t ≡ true = le_true u.time t (omega (arith, h.0)) in
    ap (λ c. cond c (u ∷ up_to t us) (up_to t us)) is ∙ ap (λ ws. u ∷ ws) (all_up_to t upper us h.1 k)

-- so from its end on it contains all that it has
pub contents-before : (t upper : ℕ) (us : List Update) → IsBefore upper us → upper ≤ t + 1 → contents t us ≡ weights us
contents-before t upper us h k = ap weights (all_up_to t upper us h.each k)

-- a list that begins after a time has no update up to it
none_up_to : (t lower : ℕ) (us : List Update) → Each (λ u. lower ≤ u.time) us → t < lower → up_to t us ≡ []
none_up_to t lower [] h k = refl
none_up_to t lower (u ∷ us) h k =
    let is : nat_le u.time t ≡ false = le_false u.time t (omega (arith, h.0)) in
    ap (λ c. cond c (u ∷ up_to t us) (up_to t us)) is ∙ none_up_to t lower us h.1 k

-- so before its begin it contains nothing
pub contents-from : (t lower : ℕ) (us : List Update) → IsFrom lower us → t < lower → contents t us ≡ []
contents-from t lower us h k = ap weights (none_up_to t lower us h.each k)

-- from the first time on, and below the next, is up to the time
pub between-up_to : (t : ℕ) (us : List Update) → between 0 (t + 1) us ≡ up_to t us
between-up_to t [] = refl
between-up_to t (u ∷ us) =
    let same : (nat_le 0 u.time && nat_lt u.time (t + 1)) ≡ nat_le u.time t = grind (arith, nat_tests) in
    ap (λ c. cond c (u ∷ between 0 (t + 1) us) (between 0 (t + 1) us)) same ∙ ap (λ vs. cond (nat_le u.time t) (u ∷ vs) vs) (between-up_to t us)

-- and what is up to a time is before the next
before_up_to : (t : ℕ) (us : List Update) → Each (λ u. u.time < t + 1) (up_to t us)
before_up_to t [] = tt
before_up_to t (u ∷ us) = by (nat_le u.time t) refl (before_up_to t us)
  where
    by : (c : Bool) → nat_le u.time t ≡ c → Each (λ u. u.time < t + 1) (up_to t us) → Each (λ u. u.time < t + 1) (cond c (u ∷ up_to t us) (up_to t us))
    by true e h = (grind (arith, nat_tests), h)
    by false e h = h

pub IsBefore-up_to : (t : ℕ) (us : List Update) → IsBefore (t + 1) (up_to t us)
IsBefore-up_to t us = record { each = before_up_to t us }

-- ---- changes

-- what one update changes of a row's count at a time
abbrev pub amount : ℕ → List Datum → Update → ℤ
amount t row u = cond (u.time == t) (cond (row_eq row u.row) u.diff (pos 0)) (pos 0)

-- a list's change is that of its first, and of the others
pub count-changes : (t : ℕ) (row : List Datum) (u : Update) (us : List Update) → count row (changes t (u ∷ us)) ≡ amount t row u +ℤ count row (changes t us)
count-changes t row u us = by (u.time == t)
  where
    by : (c : Bool) → count row (weights (cond c (u ∷ at t us) (at t us))) ≡ cond c (cond (row_eq row u.row) u.diff (pos 0)) (pos 0) +ℤ count row (changes t us)
    by true = refl
    by false = omega (arith, ints)

-- at the first time a list contains what changes then
pub count-at_first : (row : List Datum) (us : List Update) → count row (contents 0 us) ≡ count row (changes 0 us)
count-at_first row [] = refl
count-at_first row (u ∷ us) =
    let same : nat_le u.time 0 ≡ (u.time == 0) = grind (arith, nat_tests) in
    ap (λ c. count row (weights (cond c (u ∷ up_to 0 us) (up_to 0 us)))) same ∙ by (u.time == 0) (count-at_first row us)
  where
    by : (c : Bool) → count row (contents 0 us) ≡ count row (changes 0 us) → count row (weights (cond c (u ∷ up_to 0 us) (up_to 0 us))) ≡ count row (weights (cond c (u ∷ at 0 us) (at 0 us)))
    by true h = ap (λ z. cond (row_eq row u.row) u.diff (pos 0) +ℤ z) h
    by false h = h

-- and at each later one what it contained before, and what changes then
pub count-at_next : (t : ℕ) (row : List Datum) (us : List Update) → count row (contents (suc t) us) ≡ count row (contents t us) +ℤ count row (changes (suc t) us)
count-at_next t row [] = refl
count-at_next t row (u ∷ us) = by (nat_le u.time (suc t)) (nat_le u.time t) (u.time == suc t) refl refl refl (count-at_next t row us)
  where
    by : (c d e : Bool) → nat_le u.time (suc t) ≡ c → nat_le u.time t ≡ d → (u.time == suc t) ≡ e
        → count row (contents (suc t) us) ≡ count row (contents t us) +ℤ count row (changes (suc t) us)
        → count row (weights (cond c (u ∷ up_to (suc t) us) (up_to (suc t) us)))
        ≡ count row (weights (cond d (u ∷ up_to t us) (up_to t us))) +ℤ count row (weights (cond e (u ∷ at (suc t) us) (at (suc t) us)))
    by true true true c d e h = absurd (grind (arith, nat_tests))
    by true true false c d e h = omega (arith, ints, h)
    by true false true c d e h = omega (arith, ints, h)
    by true false false c d e h = absurd (grind (arith, nat_tests))
    by false true x c d e h = absurd (grind (arith, nat_tests))
    by false false true c d e h = absurd (grind (arith, nat_tests))
    by false false false c d e h = h

pub count-next : (t : ℕ) (row : List Datum) (us : List Update) → count row (contents (t + 1) us) ≡ count row (contents t us) +ℤ count row (changes (t + 1) us)
count-next t row us = (λ i. count row (contents (add-one t i) us)) ∙ count-at_next t row us ∙ sym (λ i. count row (contents t us) +ℤ count row (changes (add-one t i) us))

-- so lists that change the same at each time contain the same
pub same_changes : (us vs : List Update) → ((t : ℕ) (row : List Datum) → count row (changes t us) ≡ count row (changes t vs)) → SameContents us vs
same_changes us vs same = record { counts = by }
  where
    by : (t : ℕ) (row : List Datum) → count row (contents t us) ≡ count row (contents t vs)
    by zero row = count-at_first row us ∙ same 0 row ∙ sym (count-at_first row vs)
    by (suc t) row = count-at_next t row us ∙ (λ i. by t row i +ℤ same (suc t) row i) ∙ sym (count-at_next t row vs)

-- before a list's begin nothing changes
none_at : (t lower : ℕ) (us : List Update) → Each (λ u. lower ≤ u.time) us → t < lower → at t us ≡ []
none_at t lower [] h k = refl
none_at t lower (u ∷ us) h k =
    let is : (u.time == t) ≡ false = grind (arith, nat_tests, h.0) in
    ap (λ c. cond c (u ∷ at t us) (at t us)) is ∙ none_at t lower us h.1 k

pub changes-from : (t lower : ℕ) (us : List Update) → IsFrom lower us → t < lower → changes t us ≡ []
changes-from t lower us h k = ap weights (none_at t lower us h.each k)

-- ---- compaction

-- an update that is moved up passes the test of a later time as before
later-test : (time since t : ℕ) → since ≤ t → nat_le (later time since) t ≡ nat_le time t
later-test time since t h = by (nat_le time since) refl
  where
    by : (c : Bool) → nat_le time since ≡ c → nat_le (cond c since time) t ≡ nat_le time t
    by true e = le_true since t h ∙ sym (grind (arith, nat_tests))
    by false e = refl

-- so from the since on the contents are the same rows in the same order
pub contents-compacted : (since t : ℕ) (us : List Update) → since ≤ t → contents t (compacted since us) ≡ contents t us
contents-compacted since t [] h = refl
contents-compacted since t (u ∷ us) h =
    ap (λ c. weights (cond c (moved_up since u ∷ up_to t (compacted since us)) (up_to t (compacted since us)))) (later-test u.time since t h)
    ∙ by (nat_le u.time t) (contents-compacted since t us h)
  where
    by : (c : Bool) → contents t (compacted since us) ≡ contents t us
        → weights (cond c (moved_up since u ∷ up_to t (compacted since us)) (up_to t (compacted since us))) ≡ weights (cond c (u ∷ up_to t us) (up_to t us))
    by true e = ap (λ ws. (u.row, u.diff) ∷ ws) e
    by false e = e

-- and count the same
pub SameFrom-compacted : (since : ℕ) (us : List Update) → SameFrom since (compacted since us) us
SameFrom-compacted since us = record { counts = λ t row h. ap (count row) (contents-compacted since t us h) }

-- the later of two times is not before the second
later-from : (time since : ℕ) → since ≤ later time since
later-from time since = by (nat_le time since) refl
  where
    by : (c : Bool) → nat_le time since ≡ c → since ≤ cond c since time
    by true e = omega arith
    by false e = grind (arith, nat_tests)

-- so nothing is left before the since
from_compacted : (since : ℕ) (us : List Update) → Each (λ u. since ≤ u.time) (compacted since us)
from_compacted since [] = tt
from_compacted since (u ∷ us) = (later-from u.time since, from_compacted since us)

pub IsFrom-compacted : (since : ℕ) (us : List Update) → IsFrom since (compacted since us)
IsFrom-compacted since us = record { each = from_compacted since us }

-- the later of two times below a third is below it
later-before : (time since upper : ℕ) → time < upper → since < upper → later time since < upper
later-before time since upper h k = by (nat_le time since)
  where
    by : (c : Bool) → cond c since time < upper
    by true = k
    by false = h

before_compacted : (since upper : ℕ) (us : List Update) → since < upper → Each (λ u. u.time < upper) us → Each (λ u. u.time < upper) (compacted since us)
before_compacted since upper [] k h = tt
before_compacted since upper (u ∷ us) k h = (later-before u.time since upper h.0 k, before_compacted since upper us k h.1)

-- and a list that ends before a time still does
pub IsBefore-compacted : (since upper : ℕ) (us : List Update) → since < upper → IsBefore upper us → IsBefore upper (compacted since us)
IsBefore-compacted since upper us k h = record { each = before_compacted since upper us k h.each }

-- the rows and diffs stay
pub weights-compacted : (since : ℕ) (us : List Update) → weights (compacted since us) ≡ weights us
weights-compacted since [] = refl
weights-compacted since (u ∷ us) = ap (λ ws. (u.row, u.diff) ∷ ws) (weights-compacted since us)
