use Rattle.std.proofs.Common.{◌≢◌, drop}
use Rattle.std.specs.List.{AllByRecursion as Each}
use Rattle.mz_statement.proofs.limits.is_line.Given as goal

-- the bytes that are left decide
abbrev pub invariant-loop-byte : goal.invariant-loop-byte
invariant-loop-byte l =
    (Each (λ byte. byte ≢ 10) (drop l.byte-index l.text) → Each (λ byte. byte ≢ 10) l.text)
    × (Each (λ byte. byte ≢ 10) l.text → Each (λ byte. byte ≢ 10) (drop l.byte-index l.text))
