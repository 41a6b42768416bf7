use Rattle.std.proofs.Common.{◌≡◌, length}
use Rattle.mz_bag.proofs.NegatedCounts.{negated_to}
use Rattle.mz_bag.proofs.bag.negate_all.Given as goal

-- the counts before the place are turned
abbrev pub invariant-places : goal.invariant-places
invariant-places l = record {
  turned : l.counts.entries ≡ negated_to l.place l.initial.counts.entries;
  same_length : length l.counts.entries ≡ length l.initial.counts.entries;
}
