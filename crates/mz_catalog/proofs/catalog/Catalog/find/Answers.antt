use Rattle.std.proofs.Common.{subst, ℕ}
use Rattle.std.specs.Option.{IfSome, IsSome}
use Rattle.std.specs.Map.{values_of}
use Rattle.mz_plan.specs.Items.{numbered}
use Rattle.mz_catalog.specs.CatalogState.{CatalogState}
use Rattle.mz_catalog.proofs.ItemLemmas.{there-named}
use Rattle.mz_catalog.proofs.catalog.Catalog.find.Goals as goal

-- the item of the name stands at a place, which its number leads to
pub returns-clause-there : goal.returns-clause-there
returns-clause-there c =
    let there =
    there-named c.args.name.now (values_of c.self.inside.items.entries) c.id_of.result c.self.invariant.stored.catalog.numbers c.id_of.ensures in
    subst (λ (s : CatalogState). IfSome {T = ℕ} c.id_of.result (λ id. IsSome (numbered id s.items))) c.self.view_is there
