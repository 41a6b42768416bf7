use Rattle.mz_statement.specs.SameLaws.{same_test_decided}
use Rattle.mz_statement.proofs.condition.TestPartialEq.eq.Goals as goal

-- the two answers decide the same
pub returns : goal.returns
returns c = same_test_decided c.args.self.now c.args.other.now c.is_same.result c.is_same.ensures
