use Rattle.std.proofs.Common.{ap, sym, subst, ◌∙◌}
use Rattle.mz_select.specs.Gives.{Is}
use Rattle.mz_resolve.specs.Unknown.{unknown_item}
use Rattle.mz_resolve.proofs.KnownLemmas.{known_stands}
use Rattle.mz_resolve.proofs.NameLemmas.{named_found, named_nowhere}
use Rattle.mz_resolve.proofs.UnknownLemmas.{item_known}
use Rattle.mz_resolve.proofs.relations.named_by.Goals as goal

-- the item that the name finds is known
pub known_at-requires : goal.known_at-requires
known_at-requires c =
    item_known c.args.known.now.entries c.in-Some.item.now
    (ap (unknown_item c.args.known.now.entries) c.in-Some.ensures.item ∙ c.requires.reached)

-- and what is kept is what it stands for
pub returns-in-Some : goal.returns-in-Some
returns-in-Some c =
    let is_there = item_known c.args.known.now.entries c.in-Some.item.now
    (ap (unknown_item c.args.known.now.entries) c.in-Some.ensures.item ∙ c.requires.reached) in
    subst (Is c.known_at.result)
    (sym (named_found c.args.catalog.now c.args.cluster c.args.below c.args.name.now c.in-Some.item.now c.item_below.ensures.catalog
    (sym c.in-Some.ensures.item)))
    (known_stands c.args.catalog.now c.args.cluster c.args.known.now.entries c.in-Some.item.now c.known_at.result c.requires.holds
    c.in-Some.ensures.there is_there c.known_at.ensures)

-- the name finds none
pub returns-in_ok-unknown_name-in-None : goal.returns-in_ok-unknown_name-in-None
returns-in_ok-unknown_name-in-None c = rw c.in_ok-unknown_name-in-None.ensures
    (named_nowhere c.args.catalog.now c.args.cluster c.args.below c.args.name.now c.item_below.ensures.catalog (sym c.in-None.ensures.item))
