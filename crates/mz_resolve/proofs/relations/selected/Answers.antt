use Rattle.std.proofs.lemmas.Result.{err_from_is_err_and}
use Rattle.mz_resolve.specs.InCatalog.{names_below}
use Rattle.mz_resolve.proofs.RelationLemmas.{selected_fails, selected_is}
use Rattle.mz_resolve.proofs.relations.selected.Goals as goal

-- a JOIN fails
pub returns-in_err-others : goal.returns-in_err-others
returns-in_err-others c =
    let exit = err_from_is_err_and c.from_residual-in_err-others.result c.from_residual-in_err-others.ensures.1 in
    rw (exit.1, exit.2) (selected_fails (names_below c.args.catalog.now c.args.cluster c.args.below) c.args.select.now
    c.as_slice.result.now c.in_ok-first.first c.in_err-others.field-0.0
    c.in_ok-first.ensures c.as_slice.ensures c.in_err-others.ensures)

-- all references are found
pub returns : goal.returns
returns c =
    selected_is (names_below c.args.catalog.now c.args.cluster c.args.below) c.args.select.now c.as_slice.result.now c.in_ok-first.first
    c.in_ok-others.others.items c.select_over.result
    c.in_ok-first.ensures c.as_slice.ensures c.in_ok-others.ensures c.select_over.ensures
