use Rattle.mz_resolve.proofs.PathLemmas.{IsUnderWay, left}
use Rattle.mz_resolve.proofs.reached.reach.Given as goal

-- some steps were done
abbrev pub invariant-items : goal.invariant-items
invariant-items l = IsUnderWay l.catalog l.cluster l.item l.initial.known.entries l.known.entries l.waiting.items

-- each leaves fewer unknown items, or one with a lower number waits last
abbrev pub decreases-items : goal.decreases-items
decreases-items l = left l.catalog l.known.entries l.waiting.items
