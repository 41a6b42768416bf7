use Rattle.std.proofs.Common.{◌≡◌, find}
use Rattle.indexmap.specs.IndexMap.{values}
use Rattle.mz_plan.specs.Items.{depends}
use Rattle.mz_catalog.proofs.entries.first_dependent.Given as goal

-- the items that are left decide
abbrev pub invariant-items : goal.invariant-items
invariant-items l =
    find (λ item. depends item.kind l.on) l.item-iterator ≡ find (λ item. depends item.kind l.on) (values l.items)
