use Rattle.std.proofs.Common.{◌≡◌, ◌++◌, map}
use Rattle.mz_select.proofs.listings.columns_of.Given as goal

-- the columns so far, with those that are left
abbrev pub invariant-items : goal.invariant-items
invariant-items l =
    l.columns.items ++ map (λ item. item.column) l.item-iterator.rest.items
    ≡ map (λ item. item.column) l.fn.items.items
