use Rattle.std.proofs.Common.{◌≡◌, take}
use Rattle.mz_grammar.specs.Token.{toks_of}
use Rattle.mz_grammar.proofs.scan.toks.Given as goal

-- what the tokens so far stand for
abbrev pub invariant-tokens : goal.invariant-tokens
invariant-tokens l = l.list.items ≡ toks_of l.text (take l.token-index l.tokens)
