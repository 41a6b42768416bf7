use Rattle.std.proofs.Common.{◌≡◌, length}
use Rattle.mz_history.specs.Kept.{taken_back, mapped_to}
use Rattle.mz_history.proofs.streams.take_all_back.Given as goal

abbrev pub invariant-each : goal.invariant-each
invariant-each l = record { is : l.streams.items ≡ mapped_to l.place taken_back l.initial.streams.items; same_length : length l.streams.items ≡ length l.initial.streams.items }
