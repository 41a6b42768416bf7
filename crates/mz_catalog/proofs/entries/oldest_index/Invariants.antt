use Rattle.std.proofs.Common.{◌≡◌, ◌==◌, ◌&&◌, find}
use Rattle.indexmap.specs.IndexMap.{values}
use Rattle.mz_plan.specs.Items.{is_on}
use Rattle.mz_catalog.proofs.entries.oldest_index.Given as goal

-- the items that are left decide
abbrev pub invariant-items : goal.invariant-items
invariant-items l =
    find (λ item. item.cluster == l.cluster && is_on l.on item.kind) l.item-iterator
    ≡ find (λ item. item.cluster == l.cluster && is_on l.on item.kind) (values l.items)
