use Rattle.std.proofs.Common.{◌≡◌, ◌+◌, ◌≤◌, ◌++◌, ap, sym, subst, ◌∙◌}
use Rattle.mz_updates.specs.Contents.{stamped}
use Rattle.mz_tables.specs.Kept.{book}
use Rattle.mz_tables.specs.Table.{TableBook, IsAppended, TakesChanges}
use Rattle.mz_tables.proofs.KeptLaws.{kept_store, store_appended}
use Rattle.mz_tables.proofs.table_store.TableStore.append.Goals as goal

-- the changes stand behind what there was, and the mark before them
pub invariant_of-self-2 : goal.invariant_of-self-2
invariant_of-self-2 c =
    let s = c.self.inside in
    let is : book s.updates s.since s.upper ≡ c.args.self.now.present = ap (λ v. v.present) c.self.view_is in
    kept_store s.updates c.append.new.self s.since s.upper c.args.w c.number.result s.marked s.marked_since s.marked_upper c.args.changes.now
    (c.in_ok-append.ensures.ok ∙ ap (λ ws. s.updates ++ stamped c.args.w ws) c.in_ok-counted.ensures.rows) c.number.ensures.value
    c.self.invariant.0 c.self.invariant.1 c.self.invariant.2
    (subst (λ (b : TableBook). b.upper ≤ c.args.w) (sym is) c.requires.time) (subst (TakesChanges c.args.w c.args.changes.now) (sym is) c.requires.fits)

-- from their time on they are there
pub returns-clause-ok : goal.returns-clause-ok
returns-clause-ok c =
    let s = c.self.inside in
    let is : book s.updates s.since s.upper ≡ c.args.self.now.present = ap (λ v. v.present) c.self.view_is in
    subst (λ (b : TableBook). IsAppended c.args.w c.args.changes.now b (book c.append.new.self s.since (c.number.result + 1))) is
    (store_appended s.updates c.append.new.self s.since s.upper c.args.w c.number.result c.args.changes.now
    (c.in_ok-append.ensures.ok ∙ ap (λ ws. s.updates ++ stamped c.args.w ws) c.in_ok-counted.ensures.rows) c.number.ensures.value)
