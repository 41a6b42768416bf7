use Rattle.std.proofs.Common.{None, [], length, List, IfOk, refl, sym, subst}
use Rattle.std.specs.FinMap.{entries}
use Rattle.mz_value.specs.declared.datum.Datum.{Datum}
use Rattle.mz_bag.specs.Mass.{mass}
use Rattle.mz_bag.specs.Weighted.{each_once, negated}
use Rattle.mz_plan.specs.Items.{Ascend, dependents}
use Rattle.mz_plan.specs.Operators.{filtered}
use Rattle.mz_plan.specs.declared.item.ItemKind.TheVariants as kind
use Rattle.mz_plan.specs.declared.resolved.Resolved.{Resolved}
use Rattle.mz_plan.specs.declared.resolved.Resolved.TheVariants as resolved
use Rattle.mz_log.specs.Sequential.{Database, Made, Moved, Removed, bag_at, changed}
use Rattle.mz_log.specs.CarriedOut.{held_back, meets, next_item, overfull, rows_in, unmakable}
use Rattle.mz_log.specs.declared.reply.SeqReply.TheVariants.{Created, Dropped, Inserted, Deleted}
use Rattle.mz_seq.specs.Asked.{NamesThere}
use Rattle.mz_seq.specs.Done.{IsDone}
use Rattle.mz_seq.specs.Told.{ComesTo}
use Rattle.mz_marked.specs.Twice.{Twice}
use Rattle.mz_seq.proofs.AskedLemmas.{asked_there}
use Rattle.mz_seq.proofs.DoneLemmas.{if_done}
use Rattle.mz_seq.proofs.seq.Seq.apply.Goals as goal

-- what is named is there
pub remove-requires : goal.remove-requires
remove-requires c =
    let up = subst (λ (t : Twice Database). Ascend t.present.items) c.self.view_is c.catalog-catalog.ensures.catalog.numbers in
    subst (λ (a : Resolved). NamesThere c.args.self.now.present.items a) c.in-Drop.is
    (asked_there c.args.self.now.present.items c.args.asked up c.requires.asked)

pub insert-requires : goal.insert-requires
insert-requires c =
    let up = subst (λ (t : Twice Database). Ascend t.present.items) c.self.view_is c.catalog-catalog.ensures.catalog.numbers in
    subst (λ (a : Resolved). NamesThere c.args.self.now.present.items a) c.in-Insert.is
    (asked_there c.args.self.now.present.items c.args.asked up c.requires.asked)

pub delete-requires : goal.delete-requires
delete-requires c =
    let up = subst (λ (t : Twice Database). Ascend t.present.items) c.self.view_is c.catalog-catalog.ensures.catalog.numbers in
    subst (λ (a : Resolved). NamesThere c.args.self.now.present.items a) c.in-Delete.is
    (asked_there c.args.self.now.present.items c.args.asked up c.requires.asked)

-- each command comes to its one change
pub returns-in-CreateTable-clause-done : goal.returns-in-CreateTable-clause-done
returns-in-CreateTable-clause-done c =
    let d = c.args.self.now.present in
    let x = c.in-CreateTable in
    subst (λ (a : Resolved). IfOk c.create_table.result (λ reply. IsDone a d c.create_table.new.self.present reply)) (sym x.is)
    (if_done (resolved.CreateTable x.name x.columns) d c.create_table.new.self.present (Created d.next) (unmakable d.items x.name x.columns)
    (Made (next_item d x.name 0 (kind.Table x.columns))) c.create_table.result (λ plans. refl) c.create_table.ensures.told)

pub returns-in-CreateView-clause-done : goal.returns-in-CreateView-clause-done
returns-in-CreateView-clause-done c =
    let d = c.args.self.now.present in
    let x = c.in-CreateView in
    subst (λ (a : Resolved). IfOk c.create_view.result (λ reply. IsDone a d c.create_view.new.self.present reply)) (sym x.is)
    (if_done (resolved.CreateView x.name x.columns x.query) d c.create_view.new.self.present (Created d.next) (unmakable d.items x.name x.columns)
    (Made (next_item d x.name 0 (kind.View x.columns x.query))) c.create_view.result (λ plans. refl) c.create_view.ensures.told)

pub returns-in-CreateIndex-clause-done : goal.returns-in-CreateIndex-clause-done
returns-in-CreateIndex-clause-done c =
    let d = c.args.self.now.present in
    let x = c.in-CreateIndex in
    subst (λ (a : Resolved). IfOk c.create_index.result (λ reply. IsDone a d c.create_index.new.self.present reply)) (sym x.is)
    (if_done (resolved.CreateIndex x.name x.on x.plan x.cluster) d c.create_index.new.self.present (Created d.next) (unmakable d.items x.name [])
    (Made (next_item d x.name x.cluster (kind.Index x.on x.plan))) c.create_index.result (λ plans. refl) c.create_index.ensures.told)

pub returns-in-Drop-clause-done : goal.returns-in-Drop-clause-done
returns-in-Drop-clause-done c =
    let d = c.args.self.now.present in
    let x = c.in-Drop in
    subst (λ (a : Resolved). IfOk c.remove.result (λ reply. IsDone a d c.remove.new.self.present reply)) (sym x.is)
    (if_done (resolved.Drop x.id) d c.remove.new.self.present Dropped (held_back (dependents x.id d.items))
    (Removed x.id) c.remove.result (λ plans. refl) c.remove.ensures.told)

pub returns-in-Insert-clause-done : goal.returns-in-Insert-clause-done
returns-in-Insert-clause-done c =
    let d = c.args.self.now.present in
    let x = c.in-Insert in
    let told = subst (λ (rows : List (List Datum)). IfOk c.insert.result
    (λ reply. ComesTo (overfull (rows_in (bag_at d.bags x.table)) (length rows)) (Inserted (length rows)) (changed d (Moved x.table (each_once rows))) d c.insert.new.self.present reply))
    c.as_slice.ensures c.insert.ensures.told in
    subst (λ (a : Resolved). IfOk c.insert.result (λ reply. IsDone a d c.insert.new.self.present reply)) (sym x.is)
    (if_done (resolved.Insert x.table x.rows) d c.insert.new.self.present (Inserted (length x.rows))
    (overfull (rows_in (bag_at d.bags x.table)) (length x.rows)) (Moved x.table (each_once x.rows)) c.insert.result (λ plans. refl) told)

pub returns-in-Delete-clause-done : goal.returns-in-Delete-clause-done
returns-in-Delete-clause-done c =
    let d = c.args.self.now.present in
    let x = c.in-Delete in
    subst (λ (a : Resolved). IfOk c.delete.result (λ reply. IsDone a d c.delete.new.self.present reply)) (sym x.is)
    (if_done (resolved.Delete x.table x.cond) d c.delete.new.self.present (Deleted (mass (filtered (meets x.cond) (entries (bag_at d.bags x.table))))) None
    (Moved x.table (negated (filtered (meets x.cond) (entries (bag_at d.bags x.table))))) c.delete.result (λ plans. refl) c.delete.ensures.told)
