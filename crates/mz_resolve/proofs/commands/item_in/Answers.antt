use Rattle.std.proofs.Common.{ap}
use Rattle.mz_resolution.specs.Resolution.{item_of}
use Rattle.mz_resolve.proofs.NameLemmas.{found_item}
use Rattle.mz_resolve.proofs.commands.item_in.Goals as goal

-- the name finds it
pub returns-in-Some : goal.returns-in-Some
returns-in-Some c =
    ap (item_of c.args.name.now) (found_item c.args.catalog.now c.args.name.now c.in-Some.id c.item.result.now c.find.ensures.catalog
    c.in-Some.ensures.id c.item.ensures.item)
