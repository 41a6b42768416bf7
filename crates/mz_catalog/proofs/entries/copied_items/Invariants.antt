use Rattle.std.proofs.Common.{◌≡◌, ◌++◌}
use Rattle.indexmap.specs.IndexMap.{values}
use Rattle.mz_catalog.proofs.entries.copied_items.Given as goal

-- the items so far are copied, and with those to come they are all
abbrev pub invariant-items : goal.invariant-items
invariant-items l = l.copy.items ++ l.item-iterator ≡ values l.items
