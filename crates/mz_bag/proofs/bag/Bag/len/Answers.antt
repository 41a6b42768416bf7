use Rattle.std.proofs.Common.{sym, ap, ◌∙◌}
use Rattle.std.specs.FinMap.{len}
use Rattle.mz_bag.proofs.StoredCounts.{len-map_of}
use Rattle.mz_bag.proofs.bag.Bag.len.Goals as goal

-- the map has as many entries as are stored
pub returns-clause-count : goal.returns-clause-count
returns-clause-count c = c.len.ensures.len ∙ sym (len-map_of c.self.inside.counts.entries c.len.ensures.unique) ∙ ap len c.self.view_is
