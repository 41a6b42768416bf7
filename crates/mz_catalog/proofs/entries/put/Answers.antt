use Rattle.std.proofs.Common.{◌∙◌}
use Rattle.indexmap.specs.IndexMap.{values}
use Rattle.mz_catalog.proofs.ItemLemmas.{lookup_named, free-from_refusal}
use Rattle.mz_catalog.proofs.entries.put.Goals as goal

-- an item that isn't refused has a new name
pub push-requires : goal.push-requires
push-requires c =
    let free = free-from_refusal (values c.args.items.now) c.args.item.name c.in_ok-check_new.ensures.free in
    rw c.in_ok-name.ensures (lookup_named c.args.item.name c.args.items.now.entries c.requires ∙ free.name_free)
