use Rattle.std.proofs.Common.{◌≡◌, take}
use Rattle.mz_value.proofs.list.copied.Given as goal

-- the values so far are copied
abbrev pub invariant-loop-value : goal.invariant-loop-value
invariant-loop-value g l = l.copy.items ≡ take l.value-index l.values
