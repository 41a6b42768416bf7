use Rattle.std.proofs.Common.{◌∙◌}
use Rattle.mz_arrange.proofs.OrderedLaws.{places_next}
use Rattle.mz_arrange.proofs.ordered.make_places.Goals as goal

-- one more row has its place, and all counts are as they were
pub placing-preserved : goal.placing-preserved
placing-preserved c = record {
  same = record { counts = λ q. c.make_place.ensures.same.counts q ∙ c.placing.invariant.same.counts q };
  places = places_next c.placing.rows c.make_place.new.rows c.args.more.now c.placing.row-index c.placing-item.result c.placing-test.true c.placing-item.is
      c.make_place.ensures.others c.in_ok-make_place.ensures.place c.placing.invariant.places;
}
