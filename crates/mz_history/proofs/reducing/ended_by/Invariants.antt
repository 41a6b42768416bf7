use Rattle.std.proofs.Common.{◌≡◌, ◌||◌, ℕ, drop}
use Rattle.std.specs.BTreeSet.{contains}
use Rattle.std.specs.Ordering.{nat_cmp}
use Rattle.mz_rules.specs.Streams.{is_retired}
use Rattle.mz_history.proofs.reducing.ended_by.Given as goal

abbrev pub invariant-lines : goal.invariant-lines
invariant-lines l = record { each : (peek : ℕ) → (contains nat_cmp l.ended peek || is_retired peek (drop l.line-index l.lines)) ≡ is_retired peek l.lines }
