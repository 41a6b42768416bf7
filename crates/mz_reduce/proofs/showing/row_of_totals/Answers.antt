use Rattle.std.proofs.Common.{rules}
use Rattle.mz_reduce.proofs.TotalsLaws.{none_told, one_told}
use Rattle.mz_reduce.proofs.showing.row_of_totals.Goals as goal

-- at first it is the key
pub totals-init : goal.totals-init
totals-init c = none_told c.args.orders.now.entries c.args.key.now c.into_vec-values.result.items (search rules)

-- then each total tells one value more
pub totals-preserved : goal.totals-preserved
totals-preserved c = one_told c.args.orders.now.entries c.args.key.now c.totals.values.items c.push.new.self.items c.args.totals.now
    c.totals.total-index _ _ c.totals-test.true c.totals.invariant c.in_ok-value_of.ensures (search rules)
