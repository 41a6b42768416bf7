use Rattle.std.proofs.Common.{◌≡◌, length}
use Rattle.mz_history.specs.Kept.{marked_now, mapped_to}
use Rattle.mz_history.proofs.streams.mark_all.Given as goal

abbrev pub invariant-each : goal.invariant-each
invariant-each l = record { is : l.streams.items ≡ mapped_to l.place marked_now l.initial.streams.items; same_length : length l.streams.items ≡ length l.initial.streams.items }
