use Rattle.std.proofs.Common.{◌++◌, ◌∙◌}
use Rattle.mz_ops.proofs.LinearLaws.{union_change, union_within}
use Rattle.mz_ops.proofs.union.UnionChanging.change.Goals as goal

-- a union adds up over both sides
pub returns-clause-law : goal.returns-clause-law
returns-clause-law c = union_change c.args.left c.args.right c.from_vec.result
    (c.from_vec.ensures ∙ c.in_ok-append.ensures.items ∙ (λ i. c.into_vec-rows.ensures i ++ c.into_vec.ensures i))

-- and weighs as much as both
pub returns-clause-light : goal.returns-clause-light
returns-clause-light c = union_within c.args.left c.args.right c.from_vec.result
    (c.from_vec.ensures ∙ c.in_ok-append.ensures.items ∙ (λ i. c.into_vec-rows.ensures i ++ c.into_vec.ensures i))
