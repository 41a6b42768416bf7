use Rattle.std.proofs.Common.{◌≡◌, ◌++◌, drop}
use Rattle.std.specs.BTreeMap.{get}
use Rattle.std.specs.Ordering.{nat_cmp}
use Rattle.mz_rules.specs.Reduced.{creations_left}
use Rattle.mz_history.specs.Reducing.{found_or_first}
use Rattle.mz_history.proofs.reducing.put_creations.Given as goal

abbrev pub invariant-lines : goal.invariant-lines
invariant-lines l =
    l.left.items ++ creations_left (λ number. found_or_first (get nat_cmp l.named number)) (drop l.line-index l.lines)
    ≡ l.initial.left.items ++ creations_left (λ number. found_or_first (get nat_cmp l.named number)) l.lines
