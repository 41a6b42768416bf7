use Rattle.std.proofs.Common.{◌≡◌, ℕ, ◌≤◌, ◌^◌, List, subst}
use Rattle.mz_bag.specs.Mass.{mass}
use Rattle.mz_updates.specs.declared.update.Update.{Update}
use Rattle.mz_updates.specs.Contents.{weights, IsFrom}
use Rattle.mz_reduce_tests.specs.contracts.any.AnyOpOperator.TheImpl.{ghosts}
use Rattle.mz_reduce_tests.specs.declared.any.AnyOp.{AnyOp}
use Rattle.mz_reduce_tests.specs.declared.any.AnyOp.TheVariants.{Group, Distinct}
use Rattle.mz_reduce_tests.proofs.ToldLaws.{small_groups, small_rows}
use Rattle.mz_reduce_tests.proofs.any.tell_any.Goals as goal

-- a step of small masses is within the bound of each operator
any_bears : (op : AnyOp) (next : ℕ) (us vs left right : List Update) → ghosts.stands op us vs → IsFrom (ghosts.upper op) left → IsFrom (ghosts.upper op) right
    → mass (weights us) ≤ 2 ^ 40 → mass (weights vs) ≤ 2 ^ 40 → mass (weights left) ≤ 2 ^ 40 → mass (weights right) ≤ 2 ^ 40
    → ghosts.bears op next left right
any_bears (Group op) next us vs left right = small_groups _ _ next us vs left right
any_bears (Distinct op) next us vs left right = small_rows _ _ next us vs left right

-- updates from the told upper on are from the operator's own on
own_from : (op : AnyOp) (upper : ℕ) (us : List Update) → upper ≡ ghosts.upper op → IsFrom upper us → IsFrom (ghosts.upper op) us
own_from op upper us same from = subst (λ n. IsFrom n us) same from

-- as the tests of them see
pub tell-requires-clause-bears : goal.tell-requires-clause-bears
tell-requires-clause-bears g c =
    any_bears c.args.op.now c.args.next c.args.told.now.left c.args.told.now.right c.args.left c.args.right c.requires.told.stand
    (own_from c.args.op.now c.args.told.now.upper c.args.left c.requires.upper c.want_between.ensures.from)
    (own_from c.args.op.now c.args.told.now.upper c.args.right c.requires.upper c.want_between-2.ensures.from)
    c.want_small.ensures c.want_small-2.ensures c.want_small-3.ensures c.want_small-4.ensures
