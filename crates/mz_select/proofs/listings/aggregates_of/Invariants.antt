use Rattle.std.proofs.Common.{◌≡◌, ◌++◌, drop}
use Rattle.std.specs.Prelude.{filter_map}
use Rattle.mz_select.proofs.listings.aggregates_of.Given as goal

-- the aggregates so far, with those that are left
abbrev pub invariant-items : goal.invariant-items
invariant-items l =
    l.found.items ++ filter_map (λ item. item.aggregate) (drop l.item-index l.items)
    ≡ filter_map (λ item. item.aggregate) l.items
