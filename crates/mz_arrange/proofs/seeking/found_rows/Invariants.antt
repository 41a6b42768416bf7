use Rattle.std.proofs.Common.{◌≡◌, ◌++◌}
use Rattle.mz_updates.specs.Contents.{stamped}
use Rattle.mz_arrange.specs.Arranged.{of_key}
use Rattle.mz_arrange.proofs.KeyOrder.{IsRest}
use Rattle.mz_arrange.proofs.seeking.found_rows.Given as goal

-- those of the key so far are copied, and with those to come, which stand in order from the key on, they are all
abbrev pub invariant-rows : goal.invariant-rows
invariant-rows l = record {
  rest : IsRest l.key l.row-iterator;
  all : l.copy ++ stamped 0 (of_key l.key l.row-iterator) ≡ stamped 0 (of_key l.key l.rows.entries);
}
