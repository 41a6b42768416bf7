use Rattle.std.proofs.Common.{length}
use Rattle.mz_lex.proofs.CutLemmas.{SoFar}
use Rattle.mz_lex.proofs.lexer.cut.Given as goal

-- the list holds the tokens up to the rest
abbrev pub invariant-tokens : goal.invariant-tokens
invariant-tokens l = SoFar l.text l.list.items l.rest

-- the bytes that are left
abbrev pub decreases-tokens : goal.decreases-tokens
decreases-tokens l = length l.rest
