use Rattle.std.proofs.Common.{◌≡◌, bytes_eq, drop, is_some, map}
use Rattle.mz_resolution.specs.Columns.{only_one}
use Rattle.mz_select.proofs.ColumnLemmas.{is_still_one}
use Rattle.mz_select.proofs.columns.is_called_once.Given as goal

-- what was found, and the names that are left, decide
abbrev pub invariant-called : goal.invariant-called
invariant-called l =
    is_still_one l.found (bytes_eq l.name) (map (λ other. other.now) (drop l.other-index l.called))
    ≡ is_some (only_one (bytes_eq l.name) (map (λ other. other.now) l.called))
