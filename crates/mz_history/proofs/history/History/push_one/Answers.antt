use Rattle.std.proofs.Common.{ap, ◌∙◌, take}
use Rattle.mz_history.specs.Kept.{markeds, presents}
use Rattle.mz_history.specs.StreamBook.{told_one}
use Rattle.mz_history.proofs.Marks.{kept_one_told}
use Rattle.mz_history.proofs.history.History.push_one.Goals as goal

-- the same replicas have streams
pub invariant_of-self-2 : goal.invariant_of-self-2
invariant_of-self-2 c =
    let h = c.self.inside in
    kept_one_told c.args.replica.now c.args.line h.streams.items c.push_one.new.streams.items h.joinings.items h.mark h.joined_mark c.self.invariant
    c.in_ok-push_one.ensures.same_length c.in_ok-push_one.ensures.ok c.in_ok-push_one.ensures.marked

-- what is marked stays
pub returns-clause-marked : goal.returns-clause-marked
returns-clause-marked c =
    let h = c.self.inside in
    (λ i. record { live = c.in_ok-push_one.ensures.marked h.mark i; joined = markeds (take h.joined_mark h.joinings.items) })
    ∙ ap (λ v. v.marked) c.self.view_is

-- that of the replica has the line behind its others
pub returns-clause-ok : goal.returns-clause-ok
returns-clause-ok c =
    let h = c.self.inside in
    (λ i. record { live = c.in_ok-push_one.ensures.ok i; joined = presents h.joinings.items })
    ∙ ap (λ v. told_one c.args.replica.now c.args.line v.present) c.self.view_is
