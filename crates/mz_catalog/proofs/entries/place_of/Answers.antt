use Rattle.std.proofs.Common.{rules}
use Rattle.std.proofs.lemmas.List.Sorted.{answers_always}
use Rattle.mz_catalog.proofs.PlaceLemmas.{found-at, not-missed}
use Rattle.mz_catalog.proofs.entries.place_of.Goals as goal

-- the closure gives an item's number, and the items ascend by it
pub returns-clause-place : goal.returns-clause-place
returns-clause-place c =
    let at = c.in-Ok.ensures.position (λ e. e.1.id) (answers_always _ _ _ (λ f a r g called. search rules)) in
    found-at c.args.id c.args.items.now.entries c.in-Ok.place c.requires.ascending c.in-Ok.ensures.bound at

-- the item is there
pub unreachable-requires : goal.unreachable-requires
unreachable-requires c =
    let parted = c.in-Err.ensures.position (λ e. e.1.id) (answers_always _ _ _ (λ f a r g called. search rules)) in
    not-missed c.args.id c.args.items.now.entries c.in-Err.field-0 c.requires.ascending c.requires.there parted
