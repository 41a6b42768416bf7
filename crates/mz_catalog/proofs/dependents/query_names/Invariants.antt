use Rattle.std.proofs.Common.{◌≡◌, drop}
use Rattle.mz_plan.specs.Items.{names}
use Rattle.mz_catalog.proofs.dependents.query_names.Given as goal

-- the selects that are left decide
abbrev pub invariant-selects : goal.invariant-selects
invariant-selects l = names (drop l.select-index l.selects) l.name ≡ names l.selects l.name
