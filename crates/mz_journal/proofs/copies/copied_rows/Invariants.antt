use Rattle.std.proofs.Common.{◌≡◌, take}
use Rattle.mz_journal.proofs.copies.copied_rows.Given as goal

-- the rows so far are copied
abbrev pub invariant-rows : goal.invariant-rows
invariant-rows l = l.copy.items ≡ take l.row-index l.rows
