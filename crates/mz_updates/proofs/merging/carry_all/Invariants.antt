use Rattle.std.proofs.Common.{◌≡◌, length}
use Rattle.mz_updates.specs.Carrying.{carried, carried_from}
use Rattle.mz_updates.proofs.merging.carry_all.Given as goal

-- what is left to carry makes the whole
abbrev pub invariant-places : goal.invariant-places
invariant-places l = record {
  carried : carried_from l.place l.updates.items ≡ carried l.initial.updates.items;
  same_length : length l.updates.items ≡ length l.initial.updates.items;
}
