use Rattle.mz_parse.proofs.Normal.{condition_normal}
use Rattle.mz_parse.proofs.condition.condition.Goals as goal

-- a condition that was read is in normal form
pub new-requires : goal.new-requires
new-requires c = condition_normal c.args.tokens.now _ _ c.in_ok-test.ensures
