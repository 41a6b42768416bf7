use Rattle.std.proofs.Common.{sym, subst}
use Rattle.mz_bag.proofs.BagLaws.{IsDistinct-entries}
use Rattle.mz_dataflow.specs.Run.{IsOnce}
use Rattle.mz_dataflow.proofs.AddingLaws.{added_alike}
use Rattle.mz_dataflow.proofs.adding.added_up.Goals as goal

-- they count as before
pub returns-clause-alike : goal.returns-clause-alike
returns-clause-alike c = added_alike c.in_ok-bag.bag c.into_vec.result.items c.args.rows c.in_ok-once.once
    c.in_ok-bag.ensures c.into_vec.ensures c.in_ok-once.ensures.rows

-- and none stands twice
pub returns-clause-once : goal.returns-clause-once
returns-clause-once c = subst IsOnce (sym c.in_ok-once.ensures.rows) (IsDistinct-entries c.in_ok-bag.bag)
