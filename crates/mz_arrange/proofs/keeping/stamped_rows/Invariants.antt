use Rattle.std.proofs.Common.{◌≡◌, ◌++◌}
use Rattle.mz_updates.specs.Contents.{stamped}
use Rattle.mz_arrange.proofs.keeping.stamped_rows.Given as goal

-- the rows so far are copied, and with those to come they are all
abbrev pub invariant-rows : goal.invariant-rows
invariant-rows l = l.all ++ stamped 0 l.row-iterator ≡ stamped 0 l.rows.entries
