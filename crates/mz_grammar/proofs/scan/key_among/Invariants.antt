use Rattle.std.proofs.Common.{◌≡◌, length}
use Rattle.mz_grammar.specs.Token.{key_among}
use Rattle.mz_grammar.proofs.scan.key_among.Given as goal

-- the word is none of the keys before
abbrev pub invariant-keys : goal.invariant-keys
invariant-keys l = key_among l.rest l.word ≡ key_among l.fn.keys l.word

-- the keys that are left
abbrev pub decreases-keys : goal.decreases-keys
decreases-keys l = length l.rest
