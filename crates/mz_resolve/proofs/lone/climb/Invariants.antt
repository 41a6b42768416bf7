use Rattle.mz_resolve.specs.Waiting.{AreThere, Climbs}
use Rattle.mz_resolve.proofs.lone.climb.Given as goal

-- some views were resolved, and those that wait are there
abbrev pub invariant-views : goal.invariant-views
invariant-views l = record {
  climbs : Climbs l.catalog l.cluster l.initial.waiting.items l.fn.id l.waiting.items l.top l.kept;
  there : AreThere l.catalog.items l.waiting.items;
}

-- the items that wait
abbrev pub decreases-views : goal.decreases-views
decreases-views l = l.waiting.len
