use Rattle.std.proofs.Common.{rules}
use Rattle.std.proofs.lemmas.List.Sorted.{answers_always}
use Rattle.mz_catalog.proofs.PlaceLemmas.{is-there, is-absent}
use Rattle.mz_catalog.proofs.entries.is_there.Goals as goal

-- the closure gives an item's number, and the items ascend by it
pub returns-in-Ok : goal.returns-in-Ok
returns-in-Ok c =
    let at = c.in-Ok.ensures.position (λ e. e.1.id) (answers_always _ _ _ (λ f a r g called. search rules)) in
    is-there c.args.id c.args.items.now.entries c.in-Ok.field-0 c.requires c.in-Ok.ensures.bound at

-- no item is missed
pub returns-in-Err : goal.returns-in-Err
returns-in-Err c =
    let parted = c.in-Err.ensures.position (λ e. e.1.id) (answers_always _ _ _ (λ f a r g called. search rules)) in
    is-absent c.args.id c.args.items.now.entries c.in-Err.field-0 c.requires parted
