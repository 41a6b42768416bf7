use Rattle.std.proofs.Common.{sym, subst}
use Rattle.mz_bag.specs.Bag.{map_of, IsStored}
use Rattle.mz_bag.proofs.StoredCounts.{IsStored-empty}
use Rattle.mz_bag.proofs.bag.Bag.empty.Goals as goal

-- there is no entry yet
pub invariant_of-result : goal.invariant_of-result
invariant_of-result c = subst (λ es. IsStored (map_of es)) (sym c.new.ensures.empty) IsStored-empty
