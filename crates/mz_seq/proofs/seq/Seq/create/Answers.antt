use Rattle.std.proofs.Common.{◌≡◌, ◌++◌, sym, ap, subst, ◌∙◌, le_trans, arith}
use Rattle.mz_plan.specs.Items.{is_table}
use Rattle.mz_catalog.specs.CatalogState.{CatalogState}
use Rattle.mz_log.specs.Sequential.{Bags, Database, Made, bag_at, changed}
use Rattle.mz_log.specs.CarriedOut.{unmakable}
use Rattle.mz_log.specs.declared.reply.SeqReply.TheVariants.{Created}
use Rattle.mz_seq.specs.Tables.{bags_had, bags_now, bags_then, before_of, database_of, made_bags, IsDatabase}
use Rattle.mz_seq.specs.Told.{ComesTo}
use Rattle.mz_marked.specs.Twice.{Twice}
use Rattle.mz_seq.proofs.DatabaseLemmas.{made_kept}
use Rattle.mz_seq.proofs.KeptLemmas.{comes_kept, made_after}
use Rattle.mz_seq.proofs.MarkedLemmas.{had_made, made_next}
use Rattle.mz_seq.proofs.seq.Seq.create.Goals as goal

-- the tables are those of the catalog still
pub invariant_of-self-2 : goal.invariant_of-self-2
invariant_of-self-2 c =
    let s = c.self.inside in
    let reply = c.in_ok-reply.reply in
    let why = unmakable s.catalog.present.items c.args.item.name c.args.columns.now in
    let bags : bags_now c.note_made.new.tables.items ≡ bags_now s.tables.items ++ made_bags (is_table c.args.item.kind) reply =
    c.note_made.ensures.now
    ∙ (λ i. bags_now (c.in_ok-reserve.ensures.items i) ++ made_bags (c.is_table-is_table.ensures i) reply) in
    let had : bags_had c.note_made.new.tables.items ≡ bags_had s.tables.items ++ made_bags (is_table c.args.item.kind) reply =
    c.note_made.ensures.had
    ∙ (λ i. bags_had (c.in_ok-reserve.ensures.items i) ++ made_bags (c.is_table-is_table.ensures i) reply) in
    let last = record c.args.item { id = s.catalog.present.next } in
    record {
      now = comes_kept why (Created s.catalog.present.next) reply (changed (database_of s.catalog.present (bags_now s.tables.items)) (Made last))
          (database_of s.catalog.present (bags_now s.tables.items)) (database_of c.make.new.self.present (bags_now c.note_made.new.tables.items))
          (made_after why c.args.item s.catalog.present c.make.new.self.present (bags_now s.tables.items) (bags_now c.note_made.new.tables.items) reply
          c.in_ok-reply.ensures.made bags)
          c.self.invariant.now (made_kept (database_of s.catalog.present (bags_now s.tables.items)) last c.self.invariant.now);
      then =
          subst (λ (b : Bags). IsDatabase (database_of c.make.new.self.marked b)) (sym (c.note_made.ensures.then ∙ ap bags_then c.in_ok-reserve.ensures.items))
          (subst (λ (k : CatalogState). IsDatabase (database_of k (bags_then s.tables.items))) (sym c.make.ensures.marked) c.self.invariant.then);
      unused = λ n le.
          ap (λ b. bag_at b n) (c.note_made.ensures.then ∙ ap bags_then c.in_ok-reserve.ensures.items)
          ∙ c.self.invariant.unused n (le_trans
          (made_next why c.args.item s.catalog.present c.make.new.self.present reply c.in_ok-reply.ensures.made) le);
      had =
          subst (λ (b : Bags). bags_had c.note_made.new.tables.items ≡ before_of b (bags_now c.note_made.new.tables.items))
          (sym (c.note_made.ensures.then ∙ ap bags_then c.in_ok-reserve.ensures.items))
          (had ∙ had_made why c.args.item s.catalog.present c.make.new.self.present (bags_then s.tables.items) (bags_now s.tables.items) (bags_had s.tables.items)
          (is_table c.args.item.kind) reply c.in_ok-reply.ensures.made (c.self.invariant.unused s.catalog.present.next (omega arith)) c.self.invariant.had
          ∙ ap (before_of (bags_then s.tables.items)) (sym bags));
    }

-- what comes of the catalog and of the tables comes of both
pub returns-clause-told : goal.returns-clause-told
returns-clause-told c =
    let s = c.self.inside in
    let reply = c.in_ok-reply.reply in
    let why = unmakable s.catalog.present.items c.args.item.name c.args.columns.now in
    let bags : bags_now c.note_made.new.tables.items ≡ bags_now s.tables.items ++ made_bags (is_table c.args.item.kind) reply =
    c.note_made.ensures.now
    ∙ (λ i. bags_now (c.in_ok-reserve.ensures.items i) ++ made_bags (c.is_table-is_table.ensures i) reply) in
    subst (λ (t : Twice Database). ComesTo (unmakable t.present.items c.args.item.name c.args.columns.now) (Created t.present.next)
    (changed t.present (Made (record c.args.item { id = t.present.next }))) t.present
    (database_of c.make.new.self.present (bags_now c.note_made.new.tables.items)) reply)
    c.self.view_is
    (made_after why c.args.item s.catalog.present c.make.new.self.present (bags_now s.tables.items) (bags_now c.note_made.new.tables.items) reply
    c.in_ok-reply.ensures.made bags)
