use Rattle.std.proofs.Common.{◌≡◌, ◌≤◌, false, drop, length}
use Rattle.std.specs.List.{list_any}
use Rattle.mz_journal.specs.Journal.{is_waiting}
use Rattle.mz_journal.proofs.slots.last_waiting.Given as goal

-- from the place on no call waits under the number
abbrev pub invariant-back : goal.invariant-back
invariant-back l = (l.place ≤ length l.calls) × (list_any (is_waiting l.session l.call) (drop l.place l.calls) ≡ false)

abbrev pub decreases-back : goal.decreases-back
decreases-back l = l.place
