use Rattle.std.proofs.Common.{◌≡◌, length, sym, ap, subst, ◌∙◌}
use Rattle.mz_bag.specs.Weighted.{each_once}
use Rattle.mz_log.specs.Sequential.{Bags, Database, bag_at}
use Rattle.mz_log.specs.CarriedOut.{overfull, rows_in}
use Rattle.mz_log.specs.declared.reply.SeqReply.TheVariants.{Inserted}
use Rattle.mz_seq.specs.Asked.{HasTable}
use Rattle.mz_seq.specs.Tables.{bags_had, bags_now, bags_then, before_of, database_of, IsDatabase}
use Rattle.mz_marked.specs.Twice.{Twice}
use Rattle.mz_seq.proofs.DatabaseLemmas.{bags_apart, table_there}
use Rattle.mz_seq.proofs.KeptLemmas.{rows_kept}
use Rattle.mz_seq.proofs.MarkedLemmas.{had_moved}
use Rattle.mz_seq.proofs.seq.Seq.insert.Goals as goal

-- the table that is named has a bag
pub insert_into-requires-clause-there : goal.insert_into-requires-clause-there
insert_into-requires-clause-there c =
    let s = c.self.inside in
    table_there (database_of s.catalog.present (bags_now s.tables.items)) c.args.table c.self.invariant.now
    (subst (λ (t : Twice Database). HasTable t.present.items c.args.table) (sym c.self.view_is) c.requires)

-- and no other has its number
pub insert_into-requires-clause-apart : goal.insert_into-requires-clause-apart
insert_into-requires-clause-apart c =
    let s = c.self.inside in
    bags_apart (database_of s.catalog.present (bags_now s.tables.items)) c.self.invariant.now c.catalog-catalog.ensures.catalog.numbers

-- the tables are those of the catalog still
pub invariant_of-self : goal.invariant_of-self
invariant_of-self c =
    let s = c.self.inside in
    record {
      now = rows_kept c.insert_into.result (overfull (rows_in (bag_at (bags_now s.tables.items) c.args.table)) (length c.args.rows.now)) (Inserted (length c.args.rows.now))
          s.catalog.present (bags_now s.tables.items) (bags_now c.insert_into.new.tables.items) c.args.table
          (each_once c.args.rows.now)
          c.self.invariant.now c.insert_into.ensures.told c.insert_into.ensures.err;
      then = subst (λ (b : Bags). IsDatabase (database_of s.catalog.marked b)) (sym c.insert_into.ensures.marked) c.self.invariant.then;
      unused = λ n le. ap (λ b. bag_at b n) c.insert_into.ensures.marked ∙ c.self.invariant.unused n le;
      had = subst (λ (h : Bags). h ≡ before_of (bags_then c.insert_into.new.tables.items) (bags_now c.insert_into.new.tables.items)) (sym c.insert_into.ensures.had)
          (subst (λ (b : Bags). bags_had s.tables.items ≡ before_of b (bags_now c.insert_into.new.tables.items)) (sym c.insert_into.ensures.marked)
          (had_moved c.insert_into.result (overfull (rows_in (bag_at (bags_now s.tables.items) c.args.table)) (length c.args.rows.now)) (Inserted (length c.args.rows.now))
          (bags_then s.tables.items) (bags_now s.tables.items) (bags_now c.insert_into.new.tables.items) (bags_had s.tables.items) c.args.table
          (each_once c.args.rows.now)
          c.self.invariant.had c.insert_into.ensures.told c.insert_into.ensures.err));
    }
