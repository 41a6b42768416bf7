-- What each operator of a plan makes of the rows below it.
use Rattle.std.specs.Prelude.{ℕ, Bool, ℤ, ◌*ℤ◌, List, ◌++◌, map, filter, flat_map}
use Rattle.std.specs.FinMap.{entries, keys}
use Rattle.mz_value.specs.Row.{row_eq}
use Rattle.mz_bag.specs.Weighted.{Weighted, bag_of, each_once}
use Rattle.mz_value.specs.declared.datum.Datum.{Datum}
use Rattle.mz_plan.specs.Aggregate.{aggregate_of}
use Rattle.mz_plan.specs.Value.{cells}
use Rattle.mz_plan.specs.declared.aggregate.Aggregate.{Aggregate}

-- the rows that are kept, with their weights
abbrev pub filtered : (List Datum → Bool) → Weighted → Weighted
filtered keeps ws = filter (λ w. keeps w.0) ws

-- of each row the values at these places, with the row's weight
abbrev pub projected : List ℕ → Weighted → Weighted
projected places ws = map (λ w. (cells places w.0, w.1)) ws

-- a left row and a right row join: the values at the first places of the pairs, in the left row, are
-- those at the second places, in the right row
abbrev pub joins : List (ℕ × ℕ) → List Datum → List Datum → Bool
joins pairs left right = row_eq (cells (map (λ p. p.0) pairs) left) (cells (map (λ p. p.1) pairs) right)

-- one left row with each right row that it joins: one behind the other, the weights multiplied
abbrev pub joined_row : List (ℕ × ℕ) → List Datum × ℤ → Weighted → Weighted
joined_row pairs left right = map (λ r. (left.0 ++ r.0, left.1 *ℤ r.1)) (filter (λ r. joins pairs left.0 r.0) right)

-- each left row with each right row that it joins
abbrev pub joined : List (ℕ × ℕ) → Weighted → Weighted → Weighted
joined pairs left right = flat_map (λ l. joined_row pairs l right) left

-- the rows that are there, which are those whose count isn't 0, each once
abbrev pub distinct : Weighted → Weighted
distinct ws = each_once (keys (bag_of ws))

-- the keys of the rows that are there, each once: a row's key is its values at the places
abbrev pub group_keys : List ℕ → Weighted → List (List Datum)
group_keys places ws = keys (bag_of (projected places (distinct ws)))

-- a row has this key
abbrev pub has_key : List ℕ → List Datum → List Datum → Bool
has_key places key row = row_eq (cells places row) key

-- the rows with this key that are there, with their counts
abbrev pub group_at : List ℕ → List Datum → Weighted → Weighted
group_at places key ws = entries (bag_of (filtered (has_key places key) ws))

-- the row of a group: its key, and behind it the aggregates
abbrev pub group_row : List ℕ → List Aggregate → Weighted → List Datum → List Datum
group_row places aggregates ws key = key ++ map (aggregate_of (group_at places key ws)) aggregates

-- the row of each group, once
abbrev pub grouped : List ℕ → List Aggregate → Weighted → Weighted
grouped places aggregates ws = each_once (map (group_row places aggregates ws) (group_keys places ws))
