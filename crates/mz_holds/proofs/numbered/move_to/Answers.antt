use Rattle.std.proofs.Common.{◌≡◌, ◌<◌, List, subst, length, take, slice_get}
use Rattle.std.specs.List.{AllByRecursion as Each}
use Rattle.mz_rules.specs.declared.capability.Hold.{Hold}
use Rattle.mz_holds.specs.HoldBook.{hold_of}
use Rattle.mz_holds.proofs.Found.{moves}
use Rattle.mz_holds.proofs.numbered.move_to.Goals as goal

-- no other has the number
pub returns : goal.returns
returns c =
    let is = c.deref.ensures.value in
    let p = c.place_of-place.result in
    moves c.args.number c.args.t p c.args.live.now.items c.index_mut.result.now c.requires.rising
    (subst (λ xs. Each (λ (x : Hold). x.number < c.args.number) (take p xs)) is c.place_of-place.ensures.before)
    (subst (λ (xs : List Hold). p < length xs) is c.place_of-place.ensures.place)
    (subst (λ xs. slice_get xs p ≡ hold_of c.args.number xs) is c.place_of-place.ensures.hold)
    c.index_mut.ensures.value
