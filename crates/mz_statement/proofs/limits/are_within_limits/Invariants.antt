use Rattle.std.proofs.Common.{drop}
use Rattle.std.specs.List.{AllByRecursion as Each}
use Rattle.mz_statement.proofs.limits.are_within_limits.Given as goal

-- the parts that are left decide
abbrev pub invariant-loop-part : goal.invariant-loop-part
invariant-loop-part g l =
    (Each g.T.Limited.IsWithin (drop l.part-index l.parts) → Each g.T.Limited.IsWithin l.parts)
    × (Each g.T.Limited.IsWithin l.parts → Each g.T.Limited.IsWithin (drop l.part-index l.parts))
