use Rattle.std.proofs.Common.{None}
use Rattle.mz_reduce.proofs.TotalsLaws.{totals_changed}
use Rattle.mz_reduce.proofs.totals.taken.Goals as goal

-- the key is gone
pub returns-in-Some-clause-rest : goal.returns-in-Some-clause-rest
returns-in-Some-clause-rest c =
    totals_changed c.args.aggregates.now c.args.totals.now.entries c.swap_remove.new.self.entries c.args.key.now None
    c.swap_remove.ensures.updates.0

-- or was not there
pub returns-in-None-clause-rest : goal.returns-in-None-clause-rest
returns-in-None-clause-rest c =
    totals_changed c.args.aggregates.now c.args.totals.now.entries c.swap_remove.new.self.entries c.args.key.now None
    c.swap_remove.ensures.updates.0
