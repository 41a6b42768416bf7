use Rattle.std.proofs.Common.{◌≡◌, ap, length, take, ◌∙◌}
use Rattle.mz_history.specs.Kept.{markeds, presents}
use Rattle.mz_history.proofs.Lists.{markeds_now, presents_now}
use Rattle.mz_history.proofs.Marks.{kept_marked_as}
use Rattle.mz_history.proofs.history.History.mark.Goals as goal

-- the marks are the lengths
pub invariant_of-self : goal.invariant_of-self
invariant_of-self c =
    let h = c.self.inside in
    let many : c.count-mark.result ≡ length h.streams.items = c.count-mark.ensures ∙ ap length c.deref.ensures.value in
    let joined : c.count-joined_mark.result ≡ length h.joinings.items = c.count-joined_mark.ensures ∙ ap length c.deref-2.ensures.value in
    kept_marked_as h.streams.items c.mark_all.new.streams.items h.joinings.items c.mark_all-2.new.joinings.items h.mark h.joined_mark
    c.count-mark.result c.count-joined_mark.result c.self.invariant c.mark_all.ensures c.mark_all-2.ensures many joined

pub returns-clause-present : goal.returns-clause-present
returns-clause-present c =
    let h = c.self.inside in
    (λ i. record {
      live = (ap presents c.mark_all.ensures ∙ presents_now h.streams.items) i;
      joined = (ap presents c.mark_all-2.ensures ∙ presents_now h.joinings.items) i;
    }) ∙ ap (λ v. v.present) c.self.view_is

pub returns-clause-marked : goal.returns-clause-marked
returns-clause-marked c =
    let h = c.self.inside in
    let m = c.count-mark.result in
    let n = c.count-joined_mark.result in
    let many : m ≡ length h.streams.items = c.count-mark.ensures ∙ ap length c.deref.ensures.value in
    let joined : n ≡ length h.joinings.items = c.count-joined_mark.ensures ∙ ap length c.deref-2.ensures.value in
    (λ i. record {
      live = (ap (λ ts. markeds (take m ts)) c.mark_all.ensures ∙ markeds_now m h.streams.items many) i;
      joined = (ap (λ js. markeds (take n js)) c.mark_all-2.ensures ∙ markeds_now n h.joinings.items joined) i;
    }) ∙ ap (λ v. v.present) c.self.view_is
