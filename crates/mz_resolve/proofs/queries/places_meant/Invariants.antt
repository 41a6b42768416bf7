use Rattle.std.proofs.Common.{◌≡◌, drop}
use Rattle.mz_resolution.specs.Queries.{place_meant}
use Rattle.mz_resolution.specs.Steps.{each}
use Rattle.mz_select.proofs.Fronts.{with_front}
use Rattle.mz_resolve.proofs.queries.places_meant.Given as goal

-- the places so far, with those of the columns that are left
abbrev pub invariant-columns : goal.invariant-columns
invariant-columns l =
    with_front l.places.items (each (place_meant l.sight) (drop l.column-index l.columns)) ≡ each (place_meant l.sight) l.columns
