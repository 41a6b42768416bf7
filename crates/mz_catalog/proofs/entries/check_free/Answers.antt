use Rattle.std.proofs.Common.{sym, ◌∙◌}
use Rattle.indexmap.specs.IndexMap.{values}
use Rattle.mz_catalog.proofs.DependentLemmas.{dependents-none, dependents-first}
use Rattle.mz_catalog.proofs.entries.check_free.Goals as goal

-- the first that was found holds back
pub returns-in-Some-clause-cause : goal.returns-in-Some-clause-cause
returns-in-Some-clause-cause c =
    dependents-first c.args.on.now (values c.args.items.now) c.in-Some.dependent.now c.told.result
    (sym c.is_index.ensures ∙ c.if-is_index.false) (sym c.in-Some.ensures) c.told.ensures

-- none was found
pub returns-in-None-clause-free : goal.returns-in-None-clause-free
returns-in-None-clause-free c = dependents-none c.args.on.now (values c.args.items.now) (sym c.in-None.ensures)
