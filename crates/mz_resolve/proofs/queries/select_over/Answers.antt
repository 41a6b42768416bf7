use Rattle.std.proofs.Common.{◌∙◌, sym}
use Rattle.mz_resolve.proofs.PartsOfSelect.{select_found}
use Rattle.mz_resolve.proofs.queries.select_over.Goals as goal

-- the references stand together while the parts are found, and apart again for the plan
pub returns : goal.returns
returns c =
    let same = sym c.in_ok-references.ensures ∙ c.first_apart-first.ensures in
    let given = rw (c.deref.ensures.value, c.in_ok-references.ensures) at c.in_ok-parts.ensures in
    let found = select_found c.args.first _ c.args.others.items _ c.args.select.now _ _ same given c.in_ok-select_of.ensures in
    rw found c.narrow.ensures
