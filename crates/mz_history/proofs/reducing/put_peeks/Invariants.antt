use Rattle.std.proofs.Common.{◌≡◌, ◌++◌, drop}
use Rattle.std.specs.BTreeSet.{contains}
use Rattle.std.specs.Ordering.{nat_cmp}
use Rattle.mz_rules.specs.Reduced.{peeks_left}
use Rattle.mz_history.proofs.reducing.put_peeks.Given as goal

abbrev pub invariant-lines : goal.invariant-lines
invariant-lines l =
    l.left.items ++ peeks_left (λ peek. contains nat_cmp l.ended peek) (drop l.line-index l.lines)
    ≡ l.initial.left.items ++ peeks_left (λ peek. contains nat_cmp l.ended peek) l.lines
