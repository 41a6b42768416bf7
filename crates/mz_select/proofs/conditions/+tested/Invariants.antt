use Rattle.std.proofs.Common.{◌≡◌, drop}
use Rattle.mz_resolution.specs.Conditions.{tested}
use Rattle.mz_resolution.specs.Steps.{each}
use Rattle.mz_select.proofs.Fronts.{with_front}
use Rattle.mz_select.proofs.conditions.+tested.Given as goal

-- the conditions so far, with those of the tests that are left, are all
abbrev pub invariant-listed-tests : goal.invariant-listed-tests
invariant-listed-tests l = with_front l.found.items (each (tested l.sight) (drop l.test-index l.tests)) ≡ each (tested l.sight) l.tests
