use Rattle.std.proofs.Common.{◌≡◌, None, sym, ap, subst, ◌∙◌}
use Rattle.std.specs.FinMap.{entries}
use Rattle.mz_bag.specs.Mass.{mass}
use Rattle.mz_bag.specs.Weighted.{negated}
use Rattle.mz_plan.specs.Operators.{filtered}
use Rattle.mz_log.specs.Sequential.{Bags, Database, bag_at}
use Rattle.mz_log.specs.CarriedOut.{meets}
use Rattle.mz_log.specs.declared.reply.SeqReply.TheVariants.{Deleted}
use Rattle.mz_seq.specs.Asked.{HasTable}
use Rattle.mz_seq.specs.Tables.{bags_had, bags_now, bags_then, before_of, database_of, IsDatabase}
use Rattle.mz_marked.specs.Twice.{Twice}
use Rattle.mz_seq.proofs.DatabaseLemmas.{bags_apart, table_there}
use Rattle.mz_seq.proofs.KeptLemmas.{rows_kept}
use Rattle.mz_seq.proofs.MarkedLemmas.{had_moved}
use Rattle.mz_seq.proofs.seq.Seq.delete.Goals as goal

-- the table that is named has a bag
pub delete_from-requires-clause-there : goal.delete_from-requires-clause-there
delete_from-requires-clause-there c =
    let s = c.self.inside in
    table_there (database_of s.catalog.present (bags_now s.tables.items)) c.args.table c.self.invariant.now
    (subst (λ (t : Twice Database). HasTable t.present.items c.args.table) (sym c.self.view_is) c.requires)

-- and no other has its number
pub delete_from-requires-clause-apart : goal.delete_from-requires-clause-apart
delete_from-requires-clause-apart c =
    let s = c.self.inside in
    bags_apart (database_of s.catalog.present (bags_now s.tables.items)) c.self.invariant.now c.catalog-catalog.ensures.catalog.numbers

-- the tables are those of the catalog still
pub invariant_of-self : goal.invariant_of-self
invariant_of-self c =
    let s = c.self.inside in
    record {
      now = rows_kept c.delete_from.result None (Deleted (mass (filtered (meets c.args.cond.now) (entries (bag_at (bags_now s.tables.items) c.args.table)))))
          s.catalog.present (bags_now s.tables.items) (bags_now c.delete_from.new.tables.items) c.args.table
          (negated (filtered (meets c.args.cond.now) (entries (bag_at (bags_now s.tables.items) c.args.table))))
          c.self.invariant.now c.delete_from.ensures.told c.delete_from.ensures.err;
      then = subst (λ (b : Bags). IsDatabase (database_of s.catalog.marked b)) (sym c.delete_from.ensures.marked) c.self.invariant.then;
      unused = λ n le. ap (λ b. bag_at b n) c.delete_from.ensures.marked ∙ c.self.invariant.unused n le;
      had = subst (λ (h : Bags). h ≡ before_of (bags_then c.delete_from.new.tables.items) (bags_now c.delete_from.new.tables.items)) (sym c.delete_from.ensures.had)
          (subst (λ (b : Bags). bags_had s.tables.items ≡ before_of b (bags_now c.delete_from.new.tables.items)) (sym c.delete_from.ensures.marked)
          (had_moved c.delete_from.result None (Deleted (mass (filtered (meets c.args.cond.now) (entries (bag_at (bags_now s.tables.items) c.args.table)))))
          (bags_then s.tables.items) (bags_now s.tables.items) (bags_now c.delete_from.new.tables.items) (bags_had s.tables.items) c.args.table
          (negated (filtered (meets c.args.cond.now) (entries (bag_at (bags_now s.tables.items) c.args.table))))
          c.self.invariant.had c.delete_from.ensures.told c.delete_from.ensures.err));
    }
