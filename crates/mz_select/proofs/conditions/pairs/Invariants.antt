use Rattle.std.proofs.Common.{◌≡◌, drop}
use Rattle.mz_resolution.specs.Conditions.{equality}
use Rattle.mz_resolution.specs.Steps.{each}
use Rattle.mz_select.proofs.Fronts.{with_front}
use Rattle.mz_select.proofs.conditions.pairs.Given as goal

-- the pairs so far, with those that are left, are all
abbrev pub invariant-pairs : goal.invariant-pairs
invariant-pairs l =
    with_front l.found.items (each (equality l.sight l.joined) (drop l.pair-index l.pairs)) ≡ each (equality l.sight l.joined) l.pairs
