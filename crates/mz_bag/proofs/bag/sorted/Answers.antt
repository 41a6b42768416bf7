use Rattle.mz_bag.proofs.SortedCounts.{sorted_entries}
use Rattle.mz_bag.proofs.bag.sorted.Goals as goal

-- the sort moves pairs whose rows differ
pub returns : goal.returns
returns c = sorted_entries c.args.rows.items c.sort_unstable.new.self.items c.sort_unstable.ensures.permutation c.sort_unstable.ensures.sorted c.requires
