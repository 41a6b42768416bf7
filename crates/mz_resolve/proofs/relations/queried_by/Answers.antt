use Rattle.std.proofs.lemmas.Result.{err_from_is_err_and}
use Rattle.mz_plan.proofs.IndexRules.{parted}
use Rattle.mz_resolve.specs.InCatalog.{names_below}
use Rattle.mz_resolve.proofs.RelationLemmas.{queried_fails, queried_first_fails, queried_is}
use Rattle.mz_resolve.proofs.relations.queried_by.Goals as goal

-- the first select fails
pub returns-in_err-first-in-len1-up : goal.returns-in_err-first-in-len1-up
returns-in_err-first-in-len1-up c =
    let exit = err_from_is_err_and c.from_residual.result c.from_residual.ensures.1 in
    rw (exit.1, exit.2) (queried_first_fails
    (names_below c.args.catalog.now c.args.cluster c.args.below) c.args.selects.now c.first-item.result _
    c.in_err-first-in-len1-up.field-0.0
    (parted c.args.selects.now c.first-item.result c.in-len1-up.len_at_least c.first-item.is) c.in_err-first-in-len1-up.ensures)

-- another select fails
pub returns-in_err-others-in-len1-up : goal.returns-in_err-others-in-len1-up
returns-in_err-others-in-len1-up c =
    let exit = err_from_is_err_and c.from_residual-in_err-others-in-len1-up.result c.from_residual-in_err-others-in-len1-up.ensures.1 in
    rw (exit.1, exit.2) (queried_fails (names_below c.args.catalog.now c.args.cluster c.args.below) c.args.selects.now
    c.first-item.result _ c.in_ok-first-in-len1-up.first c.in_err-others-in-len1-up.field-0.0
    (parted c.args.selects.now c.first-item.result c.in-len1-up.len_at_least c.first-item.is) c.in_ok-first-in-len1-up.ensures
    c.in_err-others-in-len1-up.ensures)

-- all selects are found
pub returns-in_ok-others-in-len1-up : goal.returns-in_ok-others-in-len1-up
returns-in_ok-others-in-len1-up c =
    queried_is (names_below c.args.catalog.now c.args.cluster c.args.below) c.args.selects.now c.first-item.result _
    c.in_ok-first-in-len1-up.first c.in_ok-others-in-len1-up.others.items c.united.result
    (parted c.args.selects.now c.first-item.result c.in-len1-up.len_at_least c.first-item.is) c.in_ok-first-in-len1-up.ensures
    c.in_ok-others-in-len1-up.ensures c.united.ensures
