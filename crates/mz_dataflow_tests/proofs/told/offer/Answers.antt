use Rattle.std.proofs.Common.{subst}
use Rattle.mz_updates.specs.Contents.{IsFrom}
use Rattle.mz_dataflow_tests.proofs.ToldLaws.{told_more}
use Rattle.mz_dataflow_tests.proofs.told.offer.Goals as goal

-- one offer more, from the upper on
pub returns : goal.returns
returns g c =
    told_more c.args.plan.now c.args.told.now.flow c.offer_twice.new.flow c.args.told.now.given.items c.push.new.self.items c.args.leaf c.args.updates c.requires
    c.in_ok-offer_twice.ensures.offers c.offer_twice.ensures.output c.offer_twice.ensures.stands (subst (λ n. IsFrom n c.args.updates) c.upper.ensures c.want_from.ensures) (rw c.in_ok-kept.ensures at c.in_ok-push.ensures.items)
