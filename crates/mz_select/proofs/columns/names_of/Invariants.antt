use Rattle.std.proofs.Common.{◌≡◌, ◌++◌, drop, map}
use Rattle.mz_select.proofs.columns.names_of.Given as goal

-- the names so far, with those of the references that are left, are all
abbrev pub invariant-references : goal.invariant-references
invariant-references l =
    map (λ name. name.now) l.names.items ++ map (λ r. r.called) (drop l.reference-index l.references)
    ≡ map (λ r. r.called) l.references
