use Rattle.std.proofs.Common.{◌≡◌, [], take, drop}
use Rattle.mz_log.specs.CarriedOut.{twin_behind}
use Rattle.mz_seq.proofs.items.twin.Given as goal

-- there is no twin so far
abbrev pub invariant-places : goal.invariant-places
invariant-places l = twin_behind (take l.place l.columns) (drop l.place l.columns) ≡ twin_behind [] l.columns
