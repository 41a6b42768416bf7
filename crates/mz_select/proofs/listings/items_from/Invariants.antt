use Rattle.std.proofs.Common.{◌≡◌, ◌≤◌, drop}
use Rattle.mz_resolution.specs.Listings.{items_from}
use Rattle.mz_select.proofs.Fronts.{with_front}
use Rattle.mz_select.proofs.listings.items_from.Given as goal

-- the items so far, with those that are left
abbrev pub invariant-items : goal.invariant-items
invariant-items l =
    (with_front l.list.items (items_from l.sight l.keys l.before (drop l.item-index l.items)) ≡ items_from l.sight l.keys 0 l.items)
    × (l.before ≤ l.item-index)
