use Rattle.std.proofs.Common.{◌≡◌, ◌++◌, map, drop}
use Rattle.mz_select.proofs.listings.places_of.Given as goal

-- the places so far, with those that are left
abbrev pub invariant-items : goal.invariant-items
invariant-items l = l.places.items ++ map (λ item. item.place) (drop l.item-index l.items) ≡ map (λ item. item.place) l.items
