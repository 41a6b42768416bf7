use Rattle.std.proofs.Common.{ap, subst, ◌∙◌}
use Rattle.mz_resolution.specs.Resolution.{named}
use Rattle.mz_select.specs.Gives.{Is}
use Rattle.mz_resolve.specs.InCatalog.{items_below, scope_in}
use Rattle.mz_resolve.proofs.NameLemmas.{below_next}
use Rattle.mz_resolve.proofs.statements.named_in.Goals as goal

-- all items are below the next number
pub returns : goal.returns
returns c =
    subst (λ items. Is c.named.result (named (scope_in c.args.catalog.now c.args.cluster) items c.args.name.now))
    (ap (λ next. items_below next c.args.catalog.now.items) c.next.ensures.next ∙ below_next c.args.catalog.now c.next.ensures.catalog)
    c.named.ensures
