use Rattle.std.proofs.Common.{◌≡◌, take}
use Rattle.mz_plan.specs.Value.{cells}
use Rattle.mz_plan.proofs.value.cells.Given as goal

-- the values so far are those at the places so far
abbrev pub invariant-places : goal.invariant-places
invariant-places l = l.values.items ≡ cells (take l.place-index l.places) l.row
