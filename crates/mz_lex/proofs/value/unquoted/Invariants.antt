use Rattle.std.proofs.Common.{◌≡◌, ◌++◌, length}
use Rattle.mz_lex.specs.Quoted.{singled, unquoted}
use Rattle.mz_lex.proofs.value.unquoted.Given as goal

-- what was written and what is left make the text
abbrev pub invariant-bytes : goal.invariant-bytes
invariant-bytes l = l.text.items ++ singled l.rest ≡ unquoted l.fn.bytes

-- the bytes that are left
abbrev pub decreases-bytes : goal.decreases-bytes
decreases-bytes l = length l.rest
