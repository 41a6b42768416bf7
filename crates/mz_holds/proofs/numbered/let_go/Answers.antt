use Rattle.std.proofs.Common.{◌≡◌, ◌<◌, List, subst, ◌∙◌, length, take, slice_get}
use Rattle.std.specs.List.{AllByRecursion as Each}
use Rattle.mz_rules.specs.declared.capability.Hold.{Hold}
use Rattle.mz_holds.specs.HoldBook.{hold_of}
use Rattle.mz_holds.proofs.Found.{goes}
use Rattle.mz_holds.proofs.numbered.let_go.Goals as goal

-- no other has the number
pub returns : goal.returns
returns c =
    let is = c.deref.ensures.value in
    let p = c.place_of-place.result in
    c.remove.ensures.items ∙ goes c.args.number p c.args.live.now.items c.requires.rising
    (subst (λ xs. Each (λ (x : Hold). x.number < c.args.number) (take p xs)) is c.place_of-place.ensures.before)
    (subst (λ (xs : List Hold). p < length xs) is c.place_of-place.ensures.place)
    (subst (λ xs. slice_get xs p ≡ hold_of c.args.number xs) is c.place_of-place.ensures.hold)
