use Rattle.std.proofs.Common.{◌≡◌, take}
use Rattle.mz_journal.proofs.copies.copied_calls.Given as goal

-- the calls so far are copied
abbrev pub invariant-calls : goal.invariant-calls
invariant-calls l = l.copy.items ≡ take l.call-index l.calls
