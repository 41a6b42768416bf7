use Rattle.std.proofs.Common.{sym, ap, subst, ◌∙◌}
use Rattle.std.specs.Map.{values_of}
use Rattle.indexmap.specs.IndexMap.{values}
use Rattle.mz_catalog.specs.Keyed.{AreKeyed}
use Rattle.mz_catalog.proofs.ItemLemmas.{others-at, id-numbered}
use Rattle.mz_catalog.proofs.StoredLemmas.{keyed-remove}
use Rattle.mz_catalog.proofs.entries.take_out.Goals as goal

-- the entry at the place is the one of the number, so the others are left
pub returns-clause-ok : goal.returns-clause-ok
returns-clause-ok c =
    let is = id-numbered c.args.id (values c.args.items.now) c.index.result.now (sym c.place_of-place.ensures.place ∙ c.index.ensures) in
    ap values_of c.remove_at.ensures
    ∙ others-at c.args.id c.args.items.now.entries c.place_of-place.result c.index.result.now c.requires.ascending c.index.ensures is

-- the entries that are left are keyed as before
pub returns-clause-keyed : goal.returns-clause-keyed
returns-clause-keyed c = subst AreKeyed (sym c.remove_at.ensures) (keyed-remove c.args.items.now.entries c.place_of-place.result c.requires.keyed)
