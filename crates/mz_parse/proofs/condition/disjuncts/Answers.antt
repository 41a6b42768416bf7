use Rattle.std.proofs.Common.{refl}
use Rattle.mz_statement.specs.declared.condition.Test.TheVariants.{outs-Any}
use Rattle.mz_grammar.specs.Joined.{disjuncts}
use Rattle.mz_parse.proofs.condition.disjuncts.Goals as goal

-- a list that is joined by OR is its members
pub returns-in-Any : goal.returns-in-Any
unfolding disjuncts
returns-in-Any c = rw (c.in-Any.is, outs-Any c.in-Any.members) refl
