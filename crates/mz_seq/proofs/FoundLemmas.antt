-- The table of a number, where it is found, and what is written there.
use Rattle.std.proofs.Common.{◌≡◌, ℕ, suc, ◌+◌, ◌==◌, ◌<◌, ◌≤◌, Bool, true, false, ◌&&◌, ◌||◌, cond, not, ltb, List, [], ◌∷◌, ◌++◌, map, filter, length, position, slice_index_or, slice_set, None, Some, refl, sym, ap, subst, ◌∙◌, arith}
use Rattle.std.proofs.lemmas.Bool.{eqb-true}
use Rattle.std.proofs.lemmas.Bool.Decides.{nat_tests}
use Rattle.std.specs.List.{list_any, position_or_len}
use Rattle.mz_bag.specs.Weighted.{Weighted}
use Rattle.mz_bag.specs.Bag.{Counts}
use Rattle.mz_log.specs.Sequential.{added, bag_at, with_rows, without_bag}
use Rattle.mz_marked.specs.Twice.{Twice}
use Rattle.mz_seq.specs.Tables.{bags_now, bags_then, has_bag, AreApart}
use Rattle.mz_seq.specs.declared.tables.Table.{Table}
use Rattle.mz_seq.proofs.BagLemmas.{at_among, rows_among, without_among, apart_behind, stays_all}

-- ---- a list round the element that is found

-- the first element that passes, with those before it and behind it
pub record Found (p : Table → Bool) (ts : List Table) (place : ℕ) (t : Table) : Type 0 where
  pub before : List Table
  pub after : List Table
  pub whole : ts ≡ before ++ t ∷ after
  pub set : (y : Table) → slice_set ts place y ≡ before ++ y ∷ after
  pub passes : p t ≡ true
  pub first : list_any p before ≡ false

-- the next number is one more
pub one_more : (n : ℕ) → suc n ≡ 1 + n
one_more n = grind arith

found_at : (p : Table → Bool) (ts : List Table) (t : Table) → position_or_len p ts < length ts → t ≡ slice_index_or ts (position_or_len p ts) t
    → Found p ts (position_or_len p ts) t
found_at p [] t within is = absurd (omega (arith, within))
found_at p (x ∷ xs) t within is = by (p x) refl within is (found_at p xs t)
  where
    by : (b : Bool) → p x ≡ b → cond (not b) (1 + position_or_len p xs) 0 < suc (length xs)
        → t ≡ slice_index_or (x ∷ xs) (cond (not b) (1 + position_or_len p xs) 0) t
        → (position_or_len p xs < length xs → t ≡ slice_index_or xs (position_or_len p xs) t → Found p xs (position_or_len p xs) t)
        → Found p (x ∷ xs) (cond (not b) (1 + position_or_len p xs) 0) t
    by true here within is rest = record {
      before = [];
      after = xs;
      whole = ap (λ y. y ∷ xs) (sym is);
      set = λ y. refl;
      passes = ap p is ∙ here;
      first = refl;
    }
    by false here within is rest =
        let behind = rest (omega (arith, within)) (is ∙ ap (λ n. slice_index_or (x ∷ xs) n t) (sym (one_more (position_or_len p xs)))) in
        subst (λ n. Found p (x ∷ xs) n t) (one_more (position_or_len p xs)) (record {
          before = x ∷ behind.before;
          after = behind.after;
          whole = ap (λ rest. x ∷ rest) behind.whole;
          set = λ y. ap (λ rest. x ∷ rest) (behind.set y);
          passes = behind.passes;
          first = ap (λ b. b || list_any p behind.before) here ∙ behind.first;
        })

pub found : (p : Table → Bool) (ts : List Table) (place : ℕ) (t : Table) → position p ts ≡ Some place → t ≡ slice_index_or ts place t → Found p ts place t
found p ts place t at is = by (ltb (position_or_len p ts) (length ts)) refl at
  where
    by : (b : Bool) → ltb (position_or_len p ts) (length ts) ≡ b → cond b (Some (position_or_len p ts)) None ≡ Some place → Found p ts place t
    by true less at =
        let same : position_or_len p ts ≡ place = cc in
        subst (λ n. Found p ts n t) same (found_at p ts t (grind (arith, nat_tests)) (is ∙ ap (λ n. slice_index_or ts n t) (sym same)))
    by false less at = cc

pub none_passes : (p : Table → Bool) (xs : List Table) → length xs ≤ position_or_len p xs → list_any p xs ≡ false
none_passes p [] h = refl
none_passes p (x ∷ xs) h = by (p x) h (none_passes p xs)
  where
    by : (b : Bool) → suc (length xs) ≤ cond (not b) (1 + position_or_len p xs) 0 → (length xs ≤ position_or_len p xs → list_any p xs ≡ false) → (b || list_any p xs) ≡ false
    by true h ih = absurd (omega (arith, h))
    by false h ih = ih (omega arith)

-- ---- tables and their bags

-- a table of this number
abbrev pub is_at : ℕ → Table → Bool
is_at n t = t.is && t.number == n

pub any_now : (n : ℕ) (ts : List Table) → has_bag n (bags_now ts) ≡ list_any (is_at n) ts
any_now n [] = refl
any_now n (t ∷ ts) = by t.is (any_now n ts)
  where
    by : (b : Bool) → has_bag n (bags_now ts) ≡ list_any (is_at n) ts
        → has_bag n (map (λ table. (table.number, table.rows.present)) (cond b (t ∷ filter (λ table. table.is) ts) (filter (λ table. table.is) ts)))
        ≡ ((b && t.number == n) || list_any (is_at n) ts)
    by true rest = ap (λ b. t.number == n || b) rest
    by false rest = rest

-- where no table is found, none is there
pub none_at : (n : ℕ) (ts : List Table) → position (is_at n) ts ≡ None → list_any (is_at n) ts ≡ false
none_at n ts at = none_passes (is_at n) ts (by (position_or_len (is_at n) ts) (length ts) (ltb (position_or_len (is_at n) ts) (length ts)) refl at)
  where
    by : (k m : ℕ) (b : Bool) → ltb k m ≡ b → cond b (Some k) None ≡ None → m ≤ k
    by k m true e h = cc
    by k m false e h = grind (arith, nat_tests)

pub none_there : (n : ℕ) (ts : List Table) → position (is_at n) ts ≡ None → has_bag n (bags_now ts) ≡ false
none_there n ts at = any_now n ts ∙ none_at n ts at

now_split : (xs ys : List Table) → bags_now (xs ++ ys) ≡ bags_now xs ++ bags_now ys
now_split [] ys = refl
now_split (x ∷ xs) ys = by x.is (now_split xs ys)
  where
    f : Table → ℕ × Counts
    f table = (table.number, table.rows.present)

    by : (b : Bool) → bags_now (xs ++ ys) ≡ bags_now xs ++ bags_now ys
        → map f (cond b (x ∷ filter (λ table. table.is) (xs ++ ys)) (filter (λ table. table.is) (xs ++ ys)))
        ≡ map f (cond b (x ∷ filter (λ table. table.is) xs) (filter (λ table. table.is) xs)) ++ bags_now ys
    by true ih = ap (λ rest. f x ∷ rest) ih
    by false ih = ih

then_split : (xs ys : List Table) → bags_then (xs ++ ys) ≡ bags_then xs ++ bags_then ys
then_split [] ys = refl
then_split (x ∷ xs) ys = by x.was (then_split xs ys)
  where
    f : Table → ℕ × Counts
    f table = (table.number, table.rows.marked)

    by : (b : Bool) → bags_then (xs ++ ys) ≡ bags_then xs ++ bags_then ys
        → map f (cond b (x ∷ filter (λ table. table.was) (xs ++ ys)) (filter (λ table. table.was) (xs ++ ys)))
        ≡ map f (cond b (x ∷ filter (λ table. table.was) xs) (filter (λ table. table.was) xs)) ++ bags_then ys
    by true ih = ap (λ rest. f x ∷ rest) ih
    by false ih = ih

both : (b c : Bool) → (b && c) ≡ true → (b ≡ true) × (c ≡ true)
both true c h = (refl, h)
both false c h = cc

-- a table that is there has a bag
pub now_one : (y : Table) (ts : List Table) → y.is ≡ true → bags_now (y ∷ ts) ≡ (y.number, y.rows.present) ∷ bags_now ts
now_one y ts is = ap (λ b. map (λ table. (table.number, table.rows.present)) (cond b (y ∷ filter (λ table. table.is) ts) (filter (λ table. table.is) ts))) is

now_among : (y : Table) (xs zs : List Table) → y.is ≡ true → bags_now (xs ++ y ∷ zs) ≡ bags_now xs ++ (y.number, y.rows.present) ∷ bags_now zs
now_among y xs zs is = now_split xs (y ∷ zs) ∙ ap (λ rest. bags_now xs ++ rest) (now_one y zs is)

-- ---- what is written at the place that is found

-- the bags round the table of a number
pub record Around (n : ℕ) (ts : List Table) (place : ℕ) (t : Table) : Type 0 where
  pub found : Found (is_at n) ts place t
  pub there : t.is ≡ true
  pub here : t.number == n ≡ true
  pub lacks : has_bag n (bags_now found.before) ≡ false
  pub behind : has_bag n (bags_now found.after) ≡ false
  pub bags : bags_now ts ≡ bags_now found.before ++ (t.number, t.rows.present) ∷ bags_now found.after

pub around : (n : ℕ) (ts : List Table) (place : ℕ) (t : Table) → position (is_at n) ts ≡ Some place → t ≡ slice_index_or ts place t
    → AreApart (bags_now ts) → Around n ts place t
around n ts place t at is apart =
    let f = found (is_at n) ts place t at is in
    let two = both t.is (t.number == n) f.passes in
    let bags : bags_now ts ≡ bags_now f.before ++ (t.number, t.rows.present) ∷ bags_now f.after = ap bags_now f.whole ∙ now_among t f.before f.after two.0 in
    record {
      found = f;
      there = two.0;
      here = two.1;
      lacks = any_now n f.before ∙ f.first;
      behind = subst (λ k. has_bag k (bags_now f.after) ≡ false) (eqb-true t.number n two.1)
          (apart_behind (t.number, t.rows.present) (bags_now f.before) (bags_now f.after) (subst AreApart bags apart));
      bags = bags;
    }

-- the bag of the number is the table's
pub bag_there : (n : ℕ) (ts : List Table) (place : ℕ) (t : Table) → Around n ts place t → bag_at (bags_now ts) n ≡ t.rows.present
bag_there n ts place t a =
    ap (λ bags. bag_at bags n) a.bags ∙ at_among n (t.number, t.rows.present) (bags_now a.found.before) (bags_now a.found.after) a.lacks a.here

-- what is written into the rows of the table
now_written : (n : ℕ) (ts : List Table) (place : ℕ) (t : Table) (r : Twice Counts) (a : Around n ts place t)
    → bags_now (slice_set ts place (record t { rows = r })) ≡ bags_now a.found.before ++ (t.number, r.present) ∷ bags_now a.found.after
now_written n ts place t r a = ap bags_now (a.found.set (record t { rows = r })) ∙ now_among (record t { rows = r }) a.found.before a.found.after a.there

-- rows come to it
pub now_moved : (n : ℕ) (ts : List Table) (place : ℕ) (t : Table) (r : Twice Counts) (ws : Weighted) → Around n ts place t → r.present ≡ added t.rows.present ws
    → bags_now (slice_set ts place (record t { rows = r })) ≡ with_rows n ws (bags_now ts)
now_moved n ts place t r ws a is =
    now_written n ts place t r a ∙ (λ i. bags_now a.found.before ++ (t.number, is i) ∷ bags_now a.found.after)
    ∙ sym (ap (with_rows n ws) a.bags
    ∙ rows_among n ws (t.number, t.rows.present) (bags_now a.found.before) (bags_now a.found.after) a.lacks a.behind a.here)

-- or it has the rows that it had
pub now_as_before : (n : ℕ) (ts : List Table) (place : ℕ) (t : Table) (r : Twice Counts) → Around n ts place t → r.present ≡ t.rows.present
    → bags_now (slice_set ts place (record t { rows = r })) ≡ bags_now ts
now_as_before n ts place t r a is =
    now_written n ts place t r a ∙ (λ i. bags_now a.found.before ++ (t.number, is i) ∷ bags_now a.found.after) ∙ sym a.bags

-- it is there no more
pub now_gone : (n : ℕ) (ts : List Table) (place : ℕ) (t : Table) → Around n ts place t
    → bags_now (slice_set ts place (record t { is = false })) ≡ without_bag n (bags_now ts)
now_gone n ts place t a =
    ap bags_now (a.found.set (record t { is = false })) ∙ now_split a.found.before ((record t { is = false }) ∷ a.found.after)
    ∙ sym (ap (without_bag n) a.bags
    ∙ without_among n (t.number, t.rows.present) (bags_now a.found.before) (bags_now a.found.after) a.lacks a.behind a.here)

-- where there is none, none goes
pub now_none : (n : ℕ) (ts : List Table) → position (is_at n) ts ≡ None → bags_now ts ≡ without_bag n (bags_now ts)
now_none n ts at = sym (stays_all n (bags_now ts) (none_there n ts at))

-- ---- the mark stays

then_one : (y z : Table) (ts : List Table) → y.was ≡ z.was → y.number ≡ z.number → y.rows.marked ≡ z.rows.marked → bags_then (y ∷ ts) ≡ bags_then (z ∷ ts)
then_one y z ts was number marked = by z.was (λ i. map f (cond (was i) (y ∷ filter (λ table. table.was) ts) (filter (λ table. table.was) ts)))
  where
    f : Table → ℕ × Counts
    f table = (table.number, table.rows.marked)

    by : (b : Bool) → bags_then (y ∷ ts) ≡ map f (cond b (y ∷ filter (λ table. table.was) ts) (filter (λ table. table.was) ts))
        → bags_then (y ∷ ts) ≡ map f (cond b (z ∷ filter (λ table. table.was) ts) (filter (λ table. table.was) ts))
    by true h = h ∙ (λ i. (number i, marked i) ∷ bags_then ts)
    by false h = h

pub then_kept : (n : ℕ) (ts : List Table) (place : ℕ) (t y : Table) → Around n ts place t → y.was ≡ t.was → y.number ≡ t.number → y.rows.marked ≡ t.rows.marked
    → bags_then (slice_set ts place y) ≡ bags_then ts
then_kept n ts place t y a was number marked =
    ap bags_then (a.found.set y) ∙ then_split a.found.before (y ∷ a.found.after)
    ∙ ap (λ rest. bags_then a.found.before ++ rest) (then_one y t a.found.after was number marked)
    ∙ sym (ap bags_then a.found.whole ∙ then_split a.found.before (t ∷ a.found.after))
