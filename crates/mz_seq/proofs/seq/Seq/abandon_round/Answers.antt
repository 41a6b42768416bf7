use Rattle.std.proofs.Common.{◌≤◌, ap, sym, subst, ◌∙◌}
use Rattle.mz_catalog.specs.CatalogState.{IsCatalog}
use Rattle.mz_log.specs.Sequential.{bag_at}
use Rattle.mz_seq.specs.Tables.{bags_then, before_of, database_of, IsDatabase}
use Rattle.mz_seq.proofs.DatabaseLemmas.{bags_apart}
use Rattle.mz_seq.proofs.MarkedLemmas.{own_bags, to_come}
use Rattle.mz_seq.proofs.seq.Seq.abandon_round.Goals as goal

-- both halves are what there was at the mark
pub invariant_of-self : goal.invariant_of-self
invariant_of-self c =
    let s = c.self.inside in
    let d = database_of s.catalog.marked (bags_then s.tables.items) in
    let catalog = subst IsCatalog c.back.ensures.present c.back.ensures.catalog in
    record {
      now = subst IsDatabase (sym (λ i. database_of (c.back.ensures.present i) (c.back-2.ensures.now i))) c.self.invariant.then;
      then = subst IsDatabase (sym (λ i. database_of (c.back.ensures.marked i) (c.back-2.ensures.then i))) c.self.invariant.then;
      unused = λ n le.
          ap (λ b. bag_at b n) c.back-2.ensures.then
          ∙ to_come d c.self.invariant.then catalog n (subst (λ k. k ≤ n) (ap (λ k. k.next) c.back.ensures.present) le);
      had =
          c.back-2.ensures.had ∙ own_bags (bags_then s.tables.items) (bags_apart d c.self.invariant.then catalog.numbers)
          ∙ sym (λ i. before_of (c.back-2.ensures.then i) (c.back-2.ensures.now i));
    }
