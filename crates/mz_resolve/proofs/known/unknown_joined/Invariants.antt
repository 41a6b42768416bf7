use Rattle.std.proofs.Common.{◌≡◌, map, drop}
use Rattle.mz_resolve.specs.Unknown.{unknown_of}
use Rattle.mz_resolve.proofs.known.unknown_joined.Given as goal

-- the JOINs that are left decide
abbrev pub invariant-joins : goal.invariant-joins
invariant-joins l =
    unknown_of l.known.entries l.catalog l.below (map (λ join. join.reference) (drop l.join-index l.joins))
    ≡ unknown_of l.known.entries l.catalog l.below (map (λ join. join.reference) l.joins)
