use Rattle.std.proofs.Common.{◌≡◌, take}
use Rattle.mz_protocol.proofs.lists.copied.Given as goal

-- the members so far are copied
abbrev pub invariant-loop-member : goal.invariant-loop-member
invariant-loop-member g l = l.copy.items ≡ take l.member-index l.members
