use Rattle.std.proofs.Common.{◌≡◌, Some, sym, subst, ◌<◌, ◌∙◌, arith}
use Rattle.mz_plan.specs.Items.{numbered}
use Rattle.mz_catalog.proofs.ItemLemmas.{id-numbered}
use Rattle.mz_resolve.proofs.NameLemmas.{found_above, found_below, found_nowhere}
use Rattle.mz_resolve.proofs.lookups.item_below.Goals.{in_default-via-in-Some+else-id-below, in_default-via-in_default}
use Rattle.mz_resolve.proofs.lookups.item_below.Goals as goal

-- the name finds it
pub returns-in-Some-clause-item : goal.returns-in-Some-clause-item
returns-in-Some-clause-item c =
    sym (found_below c.args.catalog.now c.args.name.now c.args.below c.in-Some.id c.item.result.now c.find.ensures.catalog
    c.in-Some.ensures.id c.item.ensures.item c.if-id-below.true)

-- it has the number that was found
pub returns-in-Some-clause-below : goal.returns-in-Some-clause-below
returns-in-Some-clause-below c =
    subst (λ id. id < c.args.below) (sym (id-numbered c.in-Some.id c.args.catalog.now.items c.item.result.now c.item.ensures.item))
    c.if-id-below.true

-- so it is there under its own number
pub returns-in-Some-clause-there : goal.returns-in-Some-clause-there
returns-in-Some-clause-there c =
    subst (λ id. numbered id c.args.catalog.now.items ≡ Some c.item.result.now)
    (sym (id-numbered c.in-Some.id c.args.catalog.now.items c.item.result.now c.item.ensures.item)) c.item.ensures.item

-- the name finds none, or one that is not below
pub returns-in_default-clause-item : goal.returns-in_default-clause-item
returns-in_default-clause-item c = elim c.in_default.branch [
  | in_default-via-in-Some+else-id-below w ↦
      sym (found_above c.args.catalog.now c.args.name.now c.args.below w.in-Some.id c.find.ensures.catalog w.in-Some.ensures.id
      (omega (arith, w.if-id-below.false)))
  | in_default-via-in_default w ↦
      sym (found_nowhere c.args.catalog.now c.args.name.now c.args.below c.find.ensures.catalog (sym w.in_default.is ∙ c.find.ensures.id))
]
