use Rattle.std.proofs.Common.{◌≡◌, ◌+◌, drop}
use Rattle.mz_resolution.specs.Queries.{tables_of}
use Rattle.mz_resolve.proofs.queries.tables_of.Given as goal

-- the tables so far, with those of the references that are left
abbrev pub invariant-references : goal.invariant-references
invariant-references l = l.tables + tables_of (drop l.reference-index l.references) ≡ tables_of l.references
