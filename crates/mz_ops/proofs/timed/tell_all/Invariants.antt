use Rattle.std.proofs.Common.{◌≡◌, ◌+◌, length}
use Rattle.mz_ops.proofs.Telling.{IsUnderWay}
use Rattle.mz_ops.proofs.timed.tell_all.Given as goal

-- some times were told
abbrev pub invariant-times : goal.invariant-times
invariant-times g l = record {
  told : IsUnderWay (g.C.Changing.meaning l.initial.core) (g.C.Changing.load l.initial.core) (g.C.Changing.stands l.initial.core) (g.C.Changing.stands l.core)
      l.now l.upper l.initial.lefts.items l.initial.rights.items l.lefts.items l.rights.items l.out;
  same : g.C.Changing.meaning l.core ≡ g.C.Changing.meaning l.initial.core;
  same_load : g.C.Changing.load l.core ≡ g.C.Changing.load l.initial.core;
}

-- each takes an update
abbrev pub decreases-times : goal.decreases-times
decreases-times g l = length l.lefts.items + length l.rights.items
