use Rattle.std.proofs.Common.{◌≡◌, drop}
use Rattle.mz_resolution.specs.Resolution.{first_misfit}
use Rattle.mz_resolve.proofs.commands.first_misfit.Given as goal

-- the rows that are left decide
abbrev pub invariant-rows : goal.invariant-rows
invariant-rows l = first_misfit l.table l.columns (drop l.row-index l.rows) ≡ first_misfit l.table l.columns l.rows
