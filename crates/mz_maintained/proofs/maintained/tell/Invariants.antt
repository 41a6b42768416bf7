use Rattle.std.proofs.Common.{take}
use Rattle.mz_maintained.specs.Maintained.{AreTold}
use Rattle.mz_maintained.specs.Tables.{told_of}
use Rattle.mz_maintained.proofs.maintained.tell.Given as goal

-- the changes up to the place were told
abbrev pub invariant-changes : goal.invariant-changes
invariant-changes l = AreTold l.time (told_of (take l.table-index l.changes)) l.initial.dataflow l.initial.tables.entries l.dataflow l.tables.entries
