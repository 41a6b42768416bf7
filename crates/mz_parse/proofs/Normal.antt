-- Tests that were read are in normal form.
use Rattle.std.proofs.Common.{◌≡◌, true, List, Ok}
use Rattle.mz_statement.specs.declared.condition.Test.{Test}
use Rattle.mz_statement.specs.Test.{is_normal}
use Rattle.mz_grammar.specs.declared.token.Tok.{Tok}
use Rattle.mz_grammar.proofs.Shape.{condition_within}
use Rattle.mz_parse.specs.Reading.{condition_at}
use Rattle.mz_parse.proofs.Sound.{condition_sound}

-- a condition that was read is in normal form
pub condition_normal : (ts : List Tok) (x : Test) (us : List Tok) → condition_at ts ≡ Ok (x, us) → is_normal x ≡ true
condition_normal ts x us read = let found = condition_within x ts us (condition_sound ts x us read) in found.normal
