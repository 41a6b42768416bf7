-- Consolidated updates: one for each row and time, in order, and none that changes nothing.
use Rattle.std.specs.Prelude.{◌≢◌, pos, List}
use Rattle.std.specs.List.{AllByRecursion as Each}
use Rattle.std.specs.List.Sorted.{IsStrictlySortedBy}
use Rattle.std.specs.Ordering.{nat_cmp, on, then_cmp}
use Rattle.std.specs.declared.cmp.Ordering.{Ordering}
use Rattle.mz_value.specs.Row.{row_cmp}
use Rattle.mz_updates.specs.declared.update.Update.{Update}

-- the order of updates: by time, and then by row
abbrev pub update_cmp : Update → Update → Ordering
update_cmp = then_cmp (on (λ u. u.time) nat_cmp) (on (λ u. u.row) row_cmp)

-- in strict order, so that no row stands twice at a time, and without a diff that is 0
pub record IsConsolidated (us : List Update) : Type 0 where
  pub in_order : IsStrictlySortedBy update_cmp us
  pub no_zero : Each (λ u. u.diff ≢ pos 0) us
