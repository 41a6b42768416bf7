use Rattle.std.proofs.Common.{◌≡◌, bytes_eq, map, drop}
use Rattle.std.specs.List.{list_any}
use Rattle.mz_catalog.proofs.dependents.join_names.Given as goal

-- the joins that are left decide
abbrev pub invariant-joins : goal.invariant-joins
invariant-joins l =
    list_any (λ reference. bytes_eq reference.name l.name) (map (λ join. join.reference) (drop l.join-index l.joins))
    ≡ list_any (λ reference. bytes_eq reference.name l.name) (map (λ join. join.reference) l.joins)
