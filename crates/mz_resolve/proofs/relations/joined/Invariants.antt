use Rattle.std.proofs.Common.{◌≡◌, None, drop}
use Rattle.mz_resolution.specs.Queries.{referred}
use Rattle.mz_resolve.specs.InCatalog.{names_below}
use Rattle.mz_resolve.proofs.RelationLemmas.{SoFar}
use Rattle.mz_resolve.proofs.UnknownLemmas.{unknown_joined}
use Rattle.mz_resolve.proofs.relations.joined.Given as goal

-- the relations so far, with those of the JOINs that are left, are all; and what these name is known
abbrev pub invariant-joins : goal.invariant-joins
invariant-joins l = record {
  so_far : SoFar (λ join. referred (names_below l.catalog l.cluster l.below) join.reference) l.found.items (drop l.join-index l.joins) l.joins;
  reached : unknown_joined l.known.entries l.catalog l.below (drop l.join-index l.joins) ≡ None;
}
