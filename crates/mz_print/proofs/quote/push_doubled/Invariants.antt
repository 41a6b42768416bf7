use Rattle.std.proofs.Common.{◌≡◌, ◌++◌, length, string_bytes}
use denote.Text.{Utf8}
use denote.Shadow.{shadow}
use Rattle.std.specs.List.{flat_map}
use Rattle.mz_lex.specs.Quoted.{doubled}
use Rattle.mz_print.proofs.quote.push_doubled.Given as goal

-- what is left is added at last
abbrev pub invariant-quotes : goal.invariant-quotes
invariant-quotes l = shadow (Utf8 l.rest)
    × (string_bytes l.to ++ flat_map doubled l.rest ≡ string_bytes l.fn.to ++ flat_map doubled l.fn.text)

-- less is left
abbrev pub decreases-quotes : goal.decreases-quotes
decreases-quotes l = length l.rest
