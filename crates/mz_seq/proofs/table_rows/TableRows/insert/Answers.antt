use Rattle.std.proofs.Common.{◌+◌, length, ap, ◌∙◌}
use Rattle.mz_bag.specs.Weighted.{each_once}
use Rattle.mz_log.specs.Sequential.{added}
use Rattle.mz_seq.proofs.ViewLemmas.{insert_table, moved_fits, moved_sums, moved_keeps, same_keeps, now_same, then_same, now_moved, on_err, then_moved}
use Rattle.mz_seq.proofs.table_rows.TableRows.insert.Goals as goal

-- the counts fit, since the table has room
pub put-requires-clause-fits : goal.put-requires-clause-fits
put-requires-clause-fits c =
    let s = c.self.inside in
    let whole = insert_table s.counts.entries s.changes s.rows s.before c.args.rows.now c.args.self.now.present c.self.invariant (ap (λ t. t.present) c.self.view_is) c.requires in
    moved_fits s.counts.entries (each_once c.args.rows.now) c.in_ok-change.change (s.rows + length c.args.rows.now) whole c.in_ok-change.ensures

-- and so does what came since the mark
pub put-requires-clause-sums : goal.put-requires-clause-sums
put-requires-clause-sums c =
    let s = c.self.inside in
    let whole = insert_table s.counts.entries s.changes s.rows s.before c.args.rows.now c.args.self.now.present c.self.invariant (ap (λ t. t.present) c.self.view_is) c.requires in
    moved_sums s.counts.entries (each_once c.args.rows.now) s.changes c.in_ok-change.change (s.rows + length c.args.rows.now) s.before whole c.self.invariant.then
    c.in_ok-change.ensures

-- without memory all is as before
pub invariant_of-self : goal.invariant_of-self
invariant_of-self c =
    let s = c.self.inside in
    same_keeps s.counts.entries c.put.new.counts.entries s.changes c.put.new.changes s.rows s.before c.self.invariant c.in_err-put.ensures.same c.in_err-put.ensures.same_changes
    c.put.ensures.covers (c.put.ensures.used c.self.invariant.used)

pub returns-in_err-put-clause-err : goal.returns-in_err-put-clause-err
returns-in_err-put-clause-err c =
    on_err c.from_residual-in_err-put.result
    (now_same c.self.inside.counts.entries c.put.new.counts.entries c.in_err-put.ensures.same ∙ ap (λ t. t.present) c.self.view_is)

pub returns-in_err-put-clause-marked : goal.returns-in_err-put-clause-marked
returns-in_err-put-clause-marked c =
    then_same c.self.inside.counts.entries c.put.new.counts.entries c.self.inside.changes c.put.new.changes c.in_err-put.ensures.same c.in_err-put.ensures.same_changes
    ∙ ap (λ t. t.marked) c.self.view_is

-- else the rows have come
pub invariant_of-self-2 : goal.invariant_of-self-2
invariant_of-self-2 c =
    let s = c.self.inside in
    let whole = insert_table s.counts.entries s.changes s.rows s.before c.args.rows.now c.args.self.now.present c.self.invariant (ap (λ t. t.present) c.self.view_is) c.requires in
    moved_keeps s.counts.entries c.put.new.counts.entries (each_once c.args.rows.now) s.changes c.in_ok-change.change c.put.new.changes s.rows s.before
    (s.rows + length c.args.rows.now) c.self.invariant whole c.in_ok-put.ensures.counts c.in_ok-change.ensures c.in_ok-put.ensures.changes c.put.ensures.covers (c.put.ensures.used c.self.invariant.used)

pub returns-clause-ok : goal.returns-clause-ok
returns-clause-ok c =
    now_moved c.self.inside.counts.entries c.put.new.counts.entries (each_once c.args.rows.now) c.in_ok-change.change c.in_ok-put.ensures.counts c.in_ok-change.ensures
    ∙ ap (λ t. added t.present (each_once c.args.rows.now)) c.self.view_is

-- and the mark stays
pub returns-clause-marked : goal.returns-clause-marked
returns-clause-marked c =
    then_moved c.self.inside.counts.entries c.put.new.counts.entries c.self.inside.changes c.in_ok-change.change c.put.new.changes c.in_ok-put.ensures.counts
    c.in_ok-put.ensures.changes
    ∙ ap (λ t. t.marked) c.self.view_is
