-- What the tables that there are had at the mark.
use Rattle.std.proofs.Common.{◌≡◌, ℕ, ◌==◌, Bool, true, false, ◌&&◌, ◌||◌, cond, List, [], ◌∷◌, ◌++◌, map, filter, position, slice_set, None, refl, sym, ap, ◌∙◌}
use Rattle.std.specs.List.{list_any}
use Rattle.mz_bag.specs.Bag.{Counts}
use Rattle.mz_log.specs.Sequential.{Bags, bag_at, difference, without_bag}
use Rattle.mz_seq.specs.Tables.{bags_had, bags_now, before_of, changes_of, has_bag, settled}
use Rattle.mz_seq.specs.declared.tables.Table.{Table}
use Rattle.mz_seq.proofs.BagLemmas.{stays_all, without_among}
use Rattle.mz_seq.proofs.FoundLemmas.{Around, any_now, is_at, none_at}

any_had : (n : ℕ) (ts : List Table) → has_bag n (bags_had ts) ≡ list_any (is_at n) ts
any_had n [] = refl
any_had n (t ∷ ts) = by t.is (any_had n ts)
  where
    by : (b : Bool) → has_bag n (bags_had ts) ≡ list_any (is_at n) ts
        → has_bag n (map (λ table. (table.number, table.rows.marked)) (cond b (t ∷ filter (λ table. table.is) ts) (filter (λ table. table.is) ts)))
        ≡ ((b && t.number == n) || list_any (is_at n) ts)
    by true rest = ap (λ b. t.number == n || b) rest
    by false rest = rest

had_split : (xs ys : List Table) → bags_had (xs ++ ys) ≡ bags_had xs ++ bags_had ys
had_split [] ys = refl
had_split (x ∷ xs) ys = by x.is (had_split xs ys)
  where
    f : Table → ℕ × Counts
    f table = (table.number, table.rows.marked)

    by : (b : Bool) → bags_had (xs ++ ys) ≡ bags_had xs ++ bags_had ys
        → map f (cond b (x ∷ filter (λ table. table.is) (xs ++ ys)) (filter (λ table. table.is) (xs ++ ys)))
        ≡ map f (cond b (x ∷ filter (λ table. table.is) xs) (filter (λ table. table.is) xs)) ++ bags_had ys
    by true ih = ap (λ rest. f x ∷ rest) ih
    by false ih = ih

had_one : (y : Table) (ts : List Table) → y.is ≡ true → bags_had (y ∷ ts) ≡ (y.number, y.rows.marked) ∷ bags_had ts
had_one y ts is = ap (λ b. map (λ table. (table.number, table.rows.marked)) (cond b (y ∷ filter (λ table. table.is) ts) (filter (λ table. table.is) ts))) is

had_among : (y : Table) (xs zs : List Table) → y.is ≡ true → bags_had (xs ++ y ∷ zs) ≡ bags_had xs ++ (y.number, y.rows.marked) ∷ bags_had zs
had_among y xs zs is = had_split xs (y ∷ zs) ∙ ap (λ rest. bags_had xs ++ rest) (had_one y zs is)

-- where rows come, what the table had stays
pub had_kept : (n : ℕ) (ts : List Table) (place : ℕ) (t y : Table) → Around n ts place t → y.is ≡ t.is → y.number ≡ t.number → y.rows.marked ≡ t.rows.marked
    → bags_had (slice_set ts place y) ≡ bags_had ts
had_kept n ts place t y a is number marked =
    ap bags_had (a.found.set y) ∙ had_among y a.found.before a.found.after (is ∙ a.there)
    ∙ (λ i. bags_had a.found.before ++ (number i, marked i) ∷ bags_had a.found.after)
    ∙ sym (ap bags_had a.found.whole ∙ had_among t a.found.before a.found.after a.there)

-- where a table goes, what it had goes
pub had_gone : (n : ℕ) (ts : List Table) (place : ℕ) (t : Table) → Around n ts place t
    → bags_had (slice_set ts place (record t { is = false })) ≡ without_bag n (bags_had ts)
had_gone n ts place t a =
    ap bags_had (a.found.set (record t { is = false })) ∙ had_split a.found.before ((record t { is = false }) ∷ a.found.after)
    ∙ sym (ap (without_bag n) (ap bags_had a.found.whole ∙ had_among t a.found.before a.found.after a.there)
    ∙ without_among n (t.number, t.rows.marked) (bags_had a.found.before) (bags_had a.found.after) (any_had n a.found.before ∙ a.found.first)
    (any_had n a.found.after ∙ sym (any_now n a.found.after) ∙ a.behind) a.here)

pub had_none : (n : ℕ) (ts : List Table) → position (is_at n) ts ≡ None → bags_had ts ≡ without_bag n (bags_had ts)
had_none n ts at = sym (stays_all n (bags_had ts) (any_had n ts ∙ none_at n ts at))

pub settled_had : (g : Table → Counts) (ts : List Table) → bags_had (map (λ t. settled t.number (g t)) ts) ≡ map (λ t. (t.number, g t)) ts
settled_had g [] = refl
settled_had g (t ∷ ts) = ap (λ bags. (t.number, g t) ∷ bags) (settled_had g ts)

-- so what came to each table is what it has beyond what stood under its number
pub changes_are : (before : Bags) (ts : List Table) → bags_had ts ≡ before_of before (bags_now ts)
    → changes_of ts ≡ map {B = ℕ × Counts} (λ bag. (bag.0, difference (bag_at before bag.0) bag.1)) (bags_now ts)
changes_are before [] is = refl
changes_are before (t ∷ ts) is = by t.is is (changes_are before ts)
  where
    by : (b : Bool)
        → map {B = ℕ × Counts} (λ table. (table.number, table.rows.marked)) (cond b (t ∷ filter (λ table. table.is) ts) (filter (λ table. table.is) ts))
        ≡ before_of before (map {B = ℕ × Counts} (λ table. (table.number, table.rows.present)) (cond b (t ∷ filter (λ table. table.is) ts) (filter (λ table. table.is) ts)))
        → (bags_had ts ≡ before_of before (bags_now ts) → changes_of ts ≡ map {B = ℕ × Counts} (λ bag. (bag.0, difference (bag_at before bag.0) bag.1)) (bags_now ts))
        → map {B = ℕ × Counts} (λ table. (table.number, difference table.rows.marked table.rows.present)) (cond b (t ∷ filter (λ table. table.is) ts) (filter (λ table. table.is) ts))
        ≡ map {B = ℕ × Counts} (λ bag. (bag.0, difference (bag_at before bag.0) bag.1)) (map {B = ℕ × Counts} (λ table. (table.number, table.rows.present)) (cond b (t ∷ filter (λ table. table.is) ts) (filter (λ table. table.is) ts)))
    by true is rest =
        let head : t.rows.marked ≡ bag_at before t.number = ap (first_bag before) is in
        let tail : bags_had ts ≡ before_of before (bags_now ts) = ap others_of is in
        λ i. (t.number, difference (head i) t.rows.present) ∷ rest tail i
      where
        first_bag : Bags → Bags → Counts
        first_bag none [] = bag_at none 0
        first_bag none (bag ∷ bags) = bag.1

        others_of : Bags → Bags
        others_of [] = []
        others_of (bag ∷ bags) = bags
    by false is rest = rest is
