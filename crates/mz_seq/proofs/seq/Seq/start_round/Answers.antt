use Rattle.std.proofs.Common.{◌≤◌, ap, sym, subst, ◌∙◌}
use Rattle.mz_log.specs.Sequential.{bag_at}
use Rattle.mz_seq.specs.Tables.{bags_now, before_of, database_of, IsDatabase}
use Rattle.mz_seq.proofs.DatabaseLemmas.{bags_apart}
use Rattle.mz_seq.proofs.MarkedLemmas.{own_bags, to_come}
use Rattle.mz_seq.proofs.seq.Seq.start_round.Goals as goal

-- both halves are what there was
pub invariant_of-self : goal.invariant_of-self
invariant_of-self c =
    let s = c.self.inside in
    let d = database_of s.catalog.present (bags_now s.tables.items) in
    record {
      now = subst IsDatabase (sym (λ i. database_of (c.mark.ensures.present i) (c.mark-2.ensures.now i))) c.self.invariant.now;
      then = subst IsDatabase (sym (λ i. database_of (c.mark.ensures.marked i) (c.mark-2.ensures.then i))) c.self.invariant.now;
      unused = λ n le.
          ap (λ b. bag_at b n) c.mark-2.ensures.then
          ∙ to_come d c.self.invariant.now c.mark.ensures.catalog n (subst (λ k. k ≤ n) (ap (λ k. k.next) c.mark.ensures.present) le);
      had =
          c.mark-2.ensures.had ∙ own_bags (bags_now s.tables.items) (bags_apart d c.self.invariant.now c.mark.ensures.catalog.numbers)
          ∙ sym (λ i. before_of (c.mark-2.ensures.then i) (c.mark-2.ensures.now i));
    }
