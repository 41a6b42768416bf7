use Rattle.std.proofs.Common.{◌≡◌, drop, option_map}
use Rattle.mz_resolution.specs.Columns.{may_mean, only_one}
use Rattle.mz_select.proofs.ColumnLemmas.{still_one}
use Rattle.mz_select.proofs.columns.only_meant.Given as goal

-- what was found, and the columns that are left, decide
abbrev pub invariant-columns : goal.invariant-columns
invariant-columns l =
    still_one (option_map (λ seen. seen.now) l.found) (may_mean l.column) (drop l.seen-index l.columns)
    ≡ only_one (may_mean l.column) l.columns
