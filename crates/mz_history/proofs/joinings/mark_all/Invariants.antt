use Rattle.std.proofs.Common.{◌≡◌, length}
use Rattle.mz_history.specs.Kept.{marked_now, mapped_to}
use Rattle.mz_history.proofs.joinings.mark_all.Given as goal

abbrev pub invariant-each : goal.invariant-each
invariant-each l = record { is : l.joinings.items ≡ mapped_to l.place marked_now l.initial.joinings.items; same_length : length l.joinings.items ≡ length l.initial.joinings.items }
