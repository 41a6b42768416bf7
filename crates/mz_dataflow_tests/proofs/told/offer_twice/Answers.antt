use Rattle.std.proofs.Common.{sym, ◌∙◌}
use Rattle.std.proofs.lemmas.Result.{on_ok_weaker}
use Rattle.mz_dataflow.specs.Stands.{offers_of}
use Rattle.mz_dataflow_tests.proofs.ToldLaws.{offered_twice, when_err, when_ok}
use Rattle.mz_dataflow_tests.proofs.told.offer_twice.Goals as goal

-- the first offer went well
pub returns-then-is_ok-clause-offers : goal.returns-then-is_ok-clause-offers
returns-then-is_ok-clause-offers c = when_ok c.offer.result (sym c.is_ok.ensures.value ∙ c.if-is_ok.true) c.offer.ensures.ok

-- or the second is the first, over offers that stayed
pub returns-clause-offers : goal.returns-clause-offers
returns-clause-offers c = on_ok_weaker c.offer-2.result (λ ok item.
    ok item ∙ offered_twice c.args.leaf c.args.updates c.args.copy (offers_of c.args.flow.now) (offers_of c.offer.new.self) item c.requires
    (when_err c.offer.result (sym c.is_ok.ensures.value ∙ c.if-is_ok.false) c.offer.ensures.err item)) c.offer-2.ensures.ok
