use Rattle.std.proofs.Common.{Some, sym, ap, ◌∙◌}
use Rattle.std.specs.Option.{option_map}
use Rattle.mz_resolve.specs.Known.{stands_for}
use Rattle.mz_resolve.proofs.ClimbLemmas.{climbs_more, there_front}
use Rattle.mz_resolve.proofs.LoneLemmas.{lone_stands}
use Rattle.mz_resolve.proofs.lone.climb.Goals as goal

-- one view more was resolved
pub views-preserved : goal.views-preserved
views-preserved c =
    let catalog = c.args.catalog.now in
    let view = c.item-view.result.now in
    let lone = c.in-Some-lone_above.lone in
    let stands = lone_stands catalog c.args.cluster view lone.columns.now lone.select.now c.views.top c.views.kept
    c.item-view.ensures.catalog c.in-Some-lone_above.ensures c.views.invariant.climbs.stands in (record {
      climbs = climbs_more catalog c.args.cluster c.args.waiting.now.items c.args.id c.views.waiting.items c.pop.new.self.items c.views.top
          c.in-Some.last c.views.kept c.in_ok-kept.kept c.in-Some.ensures.items c.views.invariant.climbs
          (ap (option_map (stands_for catalog c.args.cluster)) c.item-view.ensures.item ∙ ap Some (stands ∙ sym c.in_ok-kept.ensures));
      there = there_front catalog.items c.views.waiting.items c.pop.new.self.items c.in-Some.last c.in-Some.ensures.items c.views.invariant.there;
    })
