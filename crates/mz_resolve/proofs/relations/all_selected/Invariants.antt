use Rattle.std.proofs.Common.{◌≡◌, None, drop}
use Rattle.mz_resolution.specs.Queries.{selected}
use Rattle.mz_resolve.specs.InCatalog.{names_below}
use Rattle.mz_resolve.specs.Unknown.{unknown_in}
use Rattle.mz_resolve.proofs.RelationLemmas.{SoFar}
use Rattle.mz_resolve.proofs.relations.all_selected.Given as goal

-- the relations so far, with those of the selects that are left, are all; and what these name is known
abbrev pub invariant-selects : goal.invariant-selects
invariant-selects l = record {
  so_far : SoFar (selected (names_below l.catalog l.cluster l.below)) l.found.items (drop l.select-index l.selects) l.selects;
  reached : unknown_in l.known.entries l.catalog l.below (drop l.select-index l.selects) ≡ None;
}
