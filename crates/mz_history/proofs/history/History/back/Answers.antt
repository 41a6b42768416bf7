use Rattle.std.proofs.Common.{ap, ◌∙◌}
use Rattle.mz_history.specs.Kept.{markeds, presents}
use Rattle.mz_history.proofs.Lists.{presents_back}
use Rattle.mz_history.proofs.Marks.{kept_back_as}
use Rattle.mz_history.proofs.history.History.back.Goals as goal

-- those that were marked are apart
pub invariant_of-self : goal.invariant_of-self
invariant_of-self c =
    let h = c.self.inside in
    kept_back_as h.streams.items c.truncate.new.self.items c.take_all_back.new.streams.items h.joinings.items c.take_all_back-2.new.joinings.items h.mark h.joined_mark
    c.self.invariant c.truncate.ensures.items c.take_all_back.ensures

pub returns : goal.returns
returns c =
    (λ i. record {
      live = (ap presents c.take_all_back.ensures ∙ presents_back c.truncate.new.self.items ∙ ap markeds c.truncate.ensures.items) i;
      joined = (ap presents c.take_all_back-2.ensures ∙ presents_back c.truncate-2.new.self.items ∙ ap markeds c.truncate-2.ensures.items) i;
    }) ∙ ap (λ v. v.marked) c.self.view_is
