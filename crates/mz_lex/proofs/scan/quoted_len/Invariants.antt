use Rattle.std.proofs.Common.{◌≡◌, ◌≤◌, ◌-◌, length}
use Rattle.mz_lex.specs.Reach.{plus, closing, quoted_reach}
use Rattle.mz_lex.proofs.scan.quoted_len.Given as goal

-- what is left closes where the whole does
abbrev pub invariant-inside : goal.invariant-inside
invariant-inside l = record {
  within : length l.rest ≤ length l.bytes;
  same : plus (length l.bytes - length l.rest) (closing l.rest) ≡ quoted_reach l.bytes;
}

-- the bytes that are left
abbrev pub decreases-inside : goal.decreases-inside
decreases-inside l = length l.rest
