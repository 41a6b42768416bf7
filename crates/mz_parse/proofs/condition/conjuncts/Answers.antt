use Rattle.std.proofs.Common.{refl}
use Rattle.mz_statement.specs.declared.condition.Test.TheVariants.{outs-All}
use Rattle.mz_grammar.specs.Joined.{conjuncts}
use Rattle.mz_parse.proofs.condition.conjuncts.Goals as goal

-- a list that is joined by AND is its members
pub returns-in-All : goal.returns-in-All
unfolding conjuncts
returns-in-All c = rw (c.in-All.is, outs-All c.in-All.members) refl
