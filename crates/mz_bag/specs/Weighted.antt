-- Weighted lists of rows, and the bags that they make.
use Rattle.std.specs.Prelude.{ℤ, pos, neg_ℤ, ◌+ℤ◌, List, [], ◌∷◌, ◌++◌, map, if◌then◌else◌}
use Rattle.std.specs.FinMap.{empty, entries}
use Rattle.mz_value.specs.declared.datum.Datum.{Datum}
use Rattle.mz_value.specs.Row.{row_eq}
use Rattle.mz_bag.specs.Bag.{Counts, count_in, with_count}

-- rows with a weight each, where a row may stand at several places
abbrev pub Weighted : Type 0
Weighted = List (List Datum × ℤ)

-- the count of a row: the sum of its weights
abbrev pub count : List Datum → Weighted → ℤ
count row [] = pos 0
count row (w ∷ ws) = (if row_eq row w.0 then w.1 else pos 0) +ℤ count row ws

-- the bag whose counts these are
abbrev pub bag_of : Weighted → Counts
bag_of [] = empty
bag_of (w ∷ ws) = with_count (bag_of ws) w.0 (count_in (bag_of ws) w.0 +ℤ w.1)

-- each row of a list with the weight 1
abbrev pub each_once : List (List Datum) → Weighted
each_once rows = map (λ row. (row, pos 1)) rows

-- each weight turned to its negative
abbrev pub negated : Weighted → Weighted
negated ws = map (λ w. (w.0, neg_ℤ w.1)) ws

-- the bag that counts each row as often as both together
abbrev pub sum_of : Counts → Counts → Counts
sum_of first second = bag_of (entries first ++ entries second)

-- the bag with the negative of each count
abbrev pub negation_of : Counts → Counts
negation_of bag = bag_of (negated (entries bag))
