use Rattle.std.proofs.Common.{sym, ap, ◌∙◌}
use Rattle.mz_bag.specs.Bag.{Counts, count_in}
use Rattle.mz_bag.proofs.BagLaws.{count_in-empty}
use Rattle.mz_reduce.proofs.orders.count_at.Goals as goal

-- a key without rows counts none
pub returns-in-None : goal.returns-in-None
returns-in-None c = sym (ap (λ (bag : Counts). count_in bag c.args.row.now) c.in-None.ensures ∙ count_in-empty c.args.row.now)
