use Rattle.std.proofs.Common.{◌≡◌, drop}
use Rattle.std.specs.List.{list_any}
use Rattle.mz_resolution.specs.Listings.{is_aggregate}
use Rattle.mz_select.proofs.listings.is_aggregate_any.Given as goal

-- the items that are left decide
abbrev pub invariant-items : goal.invariant-items
invariant-items l =
    list_any (λ item. is_aggregate item.expression) (drop l.item-index l.items)
    ≡ list_any (λ item. is_aggregate item.expression) l.items
