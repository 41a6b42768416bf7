use Rattle.std.proofs.Common.{◌≡◌, ◌≤◌, sym, ap, subst, ◌∙◌}
use Rattle.mz_plan.specs.Items.{dependents}
use Rattle.mz_catalog.specs.CatalogState.{CatalogState}
use Rattle.mz_log.specs.Sequential.{Bags, Removed, bag_at, changed}
use Rattle.mz_log.specs.CarriedOut.{held_back}
use Rattle.mz_log.specs.declared.reply.SeqReply.TheVariants.{Dropped}
use Rattle.mz_seq.specs.Tables.{bags_had, bags_now, bags_then, before_of, database_of, IsDatabase}
use Rattle.mz_seq.proofs.DatabaseLemmas.{bags_apart, removed_kept}
use Rattle.mz_seq.proofs.KeptLemmas.{comes_kept, gone_after}
use Rattle.mz_seq.proofs.MarkedLemmas.{gone_next, had_gone_too}
use Rattle.mz_seq.proofs.seq.Seq.remove.Goals as goal

-- no two tables have one number
pub note_gone-requires : goal.note_gone-requires
note_gone-requires c =
    let s = c.self.inside in
    bags_apart (database_of s.catalog.present (bags_now s.tables.items)) c.self.invariant.now c.catalog-catalog.ensures.catalog.numbers

-- the tables are those of the catalog still
pub invariant_of-self-2 : goal.invariant_of-self-2
invariant_of-self-2 c =
    let s = c.self.inside in
    let reply = c.in_ok-reply.reply in
    let why = held_back (dependents c.args.id s.catalog.present.items) in
    record {
      now = comes_kept why Dropped reply (changed (database_of s.catalog.present (bags_now s.tables.items)) (Removed c.args.id))
          (database_of s.catalog.present (bags_now s.tables.items)) (database_of c.remove.new.self.present (bags_now c.note_gone.new.tables.items))
          (gone_after why c.args.id s.catalog.present c.remove.new.self.present (bags_now s.tables.items) (bags_now c.note_gone.new.tables.items) reply
          c.in_ok-reply.ensures.removed c.note_gone.ensures.now)
          c.self.invariant.now (removed_kept (database_of s.catalog.present (bags_now s.tables.items)) c.args.id c.self.invariant.now);
      then =
          subst (λ (b : Bags). IsDatabase (database_of c.remove.new.self.marked b)) (sym c.note_gone.ensures.then)
          (subst (λ (k : CatalogState). IsDatabase (database_of k (bags_then s.tables.items))) (sym c.remove.ensures.marked) c.self.invariant.then);
      unused = λ n le.
          ap (λ b. bag_at b n) c.note_gone.ensures.then
          ∙ c.self.invariant.unused n (subst (λ m. m ≤ n) (gone_next why c.args.id s.catalog.present c.remove.new.self.present reply c.in_ok-reply.ensures.removed) le);
      had =
          subst (λ (b : Bags). bags_had c.note_gone.new.tables.items ≡ before_of b (bags_now c.note_gone.new.tables.items)) (sym c.note_gone.ensures.then)
          (c.note_gone.ensures.had
          ∙ had_gone_too why c.args.id s.catalog.present c.remove.new.self.present (bags_then s.tables.items) (bags_now s.tables.items) (bags_had s.tables.items) reply
          c.in_ok-reply.ensures.removed c.self.invariant.had
          ∙ ap (before_of (bags_then s.tables.items)) (sym c.note_gone.ensures.now));
    }
