-- How two values compare, as code compares them.
use Rattle.std.proofs.Common.{◌≡◌}
use Rattle.mz_value.specs.Datum.{datum_cmp}
use Rattle.mz_value.specs.RowOrder.{cmp-derived}
use Rattle.mz_value.specs.contracts.datum.DatumOrd.TheImpl.{ghosts}
use Rattle.mz_value.specs.declared.datum.Datum.{Datum}

-- the order that code compares by is the order of values
pub cmp_is : (x y : Datum) → ghosts.cmp x y ≡ datum_cmp x y
cmp_is = cmp-derived

-- how values compare
pub ruleset cmp_rules = (cmp_is)
