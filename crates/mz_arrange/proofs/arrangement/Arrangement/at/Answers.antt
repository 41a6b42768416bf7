use Rattle.mz_arrange.proofs.ArrangedLaws.{kept_fresh, is_fresh}
use Rattle.mz_arrange.proofs.arrangement.Arrangement.at.Goals as goal

-- nothing is kept, and there is no row
pub invariant_of-result : goal.invariant_of-result
invariant_of-result c = kept_fresh c.new.result.entries c.empty.result c.args.as_of c.new.ensures.empty c.empty.ensures

pub returns : goal.returns
returns c = is_fresh c.new.result.entries c.empty.result c.args.as_of c.new.ensures.empty c.empty.ensures
