-- Which calls a list has, and which stand before which.
use Rattle.std.proofs.Common.{ℕ, zero, suc, ◌<◌, ◌≤◌, leb, List, [], ◌∷◌, drop, refl, sym, ap, subst, inl, inr, arith}
use Rattle.std.proofs.lemmas.Bool.{cond_both, leb-false}
use Rattle.mz_books.specs.Calls.{Call}
use Rattle.mz_books.specs.History.{put, by_time}
use Rattle.mz_call_laws.specs.RealTime.{StandsBefore}
use Rattle.mz_call_laws.specs.Members.{Has}

-- a call of the rest of a list
pub has_drop : (c : Call) (n : ℕ) (xs : List Call) → Has c (drop n xs) → Has c xs
has_drop c zero xs h = h
has_drop c (suc n) [] h = h
has_drop c (suc n) (x ∷ xs) h = inr (has_drop c n xs h)

-- past one more call
has_past : (c d x : Call) (xs : List Call) → (Has d (c ∷ xs) → Has d (put c xs)) → Has d (c ∷ x ∷ xs) → Has d (x ∷ put c xs)
has_past c d x xs rest (inl same) = inr (rest (inl same))
has_past c d x xs rest (inr (inl here)) = inl here
has_past c d x xs rest (inr (inr later)) = inr (rest (inr later))

-- a call put past an earlier one still stands before the second
past_before : (c second x : Call) (xs : List Call) → c.stored.time ≤ second.stored.time → x.stored.time < c.stored.time
    → (Has second xs → StandsBefore c second (put c xs)) → Has second (x ∷ xs) → StandsBefore c second (put c xs)
past_before c second x xs le past rest (inl same) = let time = ap (λ d. d.stored.time) same in absurd (omega arith)
past_before c second x xs le past rest (inr later) = rest later

-- a call put in its place is there, and so are the others
has_put : (c d : Call) (xs : List Call) → Has d (c ∷ xs) → Has d (put c xs)
has_put c d [] h = h
has_put c d (x ∷ xs) h =
    cond_both (leb c.stored.time x.stored.time) (c ∷ x ∷ xs) (x ∷ put c xs) (Has d) (λ _. h) (λ _. has_past c d x xs (has_put c d xs) h)

-- so sorting keeps the calls
has_by_time : (d : Call) (cs : List Call) → Has d cs → Has d (by_time cs)
has_by_time d [] h = h
has_by_time d (c ∷ cs) (inl same) = has_put c d (by_time cs) (inl same)
has_by_time d (c ∷ cs) (inr later) = has_put c d (by_time cs) (inr (has_by_time d cs later))

-- a call is put before each that isn't earlier
put_before : (c second : Call) (xs : List Call) → c.stored.time ≤ second.stored.time → Has second xs → StandsBefore c second (put c xs)
put_before c second [] le h = elim h [ ]
put_before c second (x ∷ xs) le h =
    cond_both (leb c.stored.time x.stored.time) (c ∷ x ∷ xs) (x ∷ put c xs) (StandsBefore c second) (λ _. inl (refl, h))
    (λ test. inr (past_before c second x xs le (leb-false c.stored.time x.stored.time test) (put_before c second xs le) h))

-- two calls in order, past one more call
kept_past : (c first second x : Call) (xs : List Call) → (StandsBefore first second xs → StandsBefore first second (put c xs))
    → StandsBefore first second (x ∷ xs) → StandsBefore first second (x ∷ put c xs)
kept_past c first second x xs rest (inl here) =
    inl (here.0, has_put c second xs (inr here.1))
kept_past c first second x xs rest (inr later) = inr (rest later)

-- putting a call keeps the order of others
put_keeps : (c first second : Call) (xs : List Call) → StandsBefore first second xs → StandsBefore first second (put c xs)
put_keeps c first second [] b = elim b [ ]
put_keeps c first second (x ∷ xs) b =
    cond_both (leb c.stored.time x.stored.time) (c ∷ x ∷ xs) (x ∷ put c xs) (StandsBefore first second) (λ _. inr b) (λ _. kept_past c first second x xs (put_keeps c first second xs) b)

-- so sorting keeps the order of two calls of which the second isn't earlier
pub sorted_before : (first second : Call) (cs : List Call) → first.stored.time ≤ second.stored.time → StandsBefore first second cs
    → StandsBefore first second (by_time cs)
sorted_before first second [] le b = b
sorted_before first second (c ∷ cs) le (inl here) =
    subst (λ d. StandsBefore d second (put c (by_time cs))) here.0
    (put_before c second (by_time cs) (subst (λ d. d.stored.time ≤ second.stored.time) (sym here.0) le) (has_by_time second cs here.1))
sorted_before first second (c ∷ cs) le (inr later) = put_keeps c first second (by_time cs) (sorted_before first second cs le later)
