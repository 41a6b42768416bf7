use Rattle.std.proofs.Common.{ap, sym, subst, ◌∙◌}
use Rattle.mz_history.specs.Kept.{markeds, presents, AreMarked}
use Rattle.mz_history.specs.StreamBook.{told_all}
use Rattle.mz_history.proofs.Live.{markeds_told, presents_told}
use Rattle.mz_history.proofs.Marks.{kept_told}
use Rattle.mz_history.proofs.history.History.push.Goals as goal

-- the same replicas have streams
pub invariant_of-self-2 : goal.invariant_of-self-2
invariant_of-self-2 c =
    let h = c.self.inside in
    subst (λ ts. AreMarked ts h.joinings.items h.mark h.joined_mark) (sym c.in_ok-push_all.ensures.ok)
    (kept_told c.args.line h.streams.items h.joinings.items h.mark h.joined_mark c.self.invariant)

-- what is marked stays
pub returns-clause-marked : goal.returns-clause-marked
returns-clause-marked c =
    let h = c.self.inside in
    (λ i. record {
      live = (ap (λ ts. markeds (Rattle.std.proofs.Common.take h.mark ts)) c.in_ok-push_all.ensures.ok ∙ markeds_told h.mark c.args.line h.streams.items) i;
      joined = markeds (Rattle.std.proofs.Common.take h.joined_mark h.joinings.items);
    }) ∙ ap (λ v. v.marked) c.self.view_is

-- each has the line behind its others
pub returns-clause-ok : goal.returns-clause-ok
returns-clause-ok c =
    let h = c.self.inside in
    (λ i. record {
      live = (ap presents c.in_ok-push_all.ensures.ok ∙ presents_told c.args.line h.streams.items) i;
      joined = presents h.joinings.items;
    }) ∙ ap (λ v. told_all c.args.line v.present) c.self.view_is
