use Rattle.std.proofs.Common.{◌≡◌, ◌-◌, sym, ap, subst, ◌∙◌, arith}
use Rattle.std.specs.FinMap.{entries}
use Rattle.mz_bag.specs.Mass.{mass}
use Rattle.mz_bag.specs.Weighted.{negated}
use Rattle.mz_plan.specs.Operators.{filtered}
use Rattle.mz_log.specs.Sequential.{added}
use Rattle.mz_log.specs.CarriedOut.{meets}
use Rattle.mz_seq.specs.Stored.{rows_now, IsKept}
use Rattle.mz_seq.proofs.TableLemmas.{table_less, gone_number}
use Rattle.mz_seq.proofs.ViewLemmas.{met_bag, met_mass, moved_fits, moved_sums, moved_keeps, same_keeps, now_same, then_same, now_moved, on_err, then_moved}
use Rattle.mz_seq.proofs.table_rows.TableRows.delete.Goals as goal

-- the counts fit, since less is left
pub put-requires-clause-fits : goal.put-requires-clause-fits
put-requires-clause-fits c =
    let s = c.self.inside in
    let p = meets c.args.cond.now in
    moved_fits s.counts.entries (negated (filtered p (entries (rows_now s.counts.entries)))) c.in_ok-met.met.gone _
    (table_less s.rows (rows_now s.counts.entries) p c.self.invariant.now) (c.in_ok-met.ensures.gone ∙ met_bag p s.counts.entries c.rows_met.ensures.once)

-- and so does what came since the mark
pub put-requires-clause-sums : goal.put-requires-clause-sums
put-requires-clause-sums c =
    let s = c.self.inside in
    let p = meets c.args.cond.now in
    moved_sums s.counts.entries (negated (filtered p (entries (rows_now s.counts.entries)))) s.changes c.in_ok-met.met.gone _ s.before
    (table_less s.rows (rows_now s.counts.entries) p c.self.invariant.now) c.self.invariant.then
    (c.in_ok-met.ensures.gone ∙ met_bag p s.counts.entries c.rows_met.ensures.once)

-- without memory all is as before
pub invariant_of-self : goal.invariant_of-self
invariant_of-self c =
    let s = c.self.inside in
    same_keeps s.counts.entries c.put.new.counts.entries s.changes c.put.new.changes s.rows s.before c.self.invariant c.in_err-put.ensures.same c.in_err-put.ensures.same_changes
    c.put.ensures.covers (c.put.ensures.used c.self.invariant.used)

pub returns-in_err-put-clause-err : goal.returns-in_err-put-clause-err
returns-in_err-put-clause-err c =
    on_err c.from_residual-in_err-put.result
    (now_same c.self.inside.counts.entries c.put.new.counts.entries c.in_err-put.ensures.same ∙ ap (λ t. t.present) c.self.view_is)

pub returns-in_err-put-clause-marked : goal.returns-in_err-put-clause-marked
returns-in_err-put-clause-marked c =
    then_same c.self.inside.counts.entries c.put.new.counts.entries c.self.inside.changes c.put.new.changes c.in_err-put.ensures.same c.in_err-put.ensures.same_changes
    ∙ ap (λ t. t.marked) c.self.view_is

-- else the rows are gone
pub invariant_of-self-2 : goal.invariant_of-self-2
invariant_of-self-2 c =
    let s = c.self.inside in
    let p = meets c.args.cond.now in
    let number : c.in_ok-met.met.number ≡ mass (filtered p (entries (rows_now s.counts.entries))) =
    c.in_ok-met.ensures.number ∙ met_mass p s.counts.entries c.rows_met.ensures.once c.self.invariant.now.counts in
    subst (λ n. IsKept c.put.new.counts.entries (s.rows - n) s.before c.put.new.changes) (sym number)
    (moved_keeps s.counts.entries c.put.new.counts.entries (negated (filtered p (entries (rows_now s.counts.entries)))) s.changes c.in_ok-met.met.gone c.put.new.changes
    s.rows s.before (s.rows - mass (filtered p (entries (rows_now s.counts.entries)))) c.self.invariant
    (table_less s.rows (rows_now s.counts.entries) p c.self.invariant.now) c.in_ok-put.ensures.counts
    (c.in_ok-met.ensures.gone ∙ met_bag p s.counts.entries c.rows_met.ensures.once) c.in_ok-put.ensures.changes c.put.ensures.covers (c.put.ensures.used c.self.invariant.used))

pub returns-clause-ok : goal.returns-clause-ok
returns-clause-ok c =
    let s = c.self.inside in
    let p = meets c.args.cond.now in
    now_moved s.counts.entries c.put.new.counts.entries (negated (filtered p (entries (rows_now s.counts.entries)))) c.in_ok-met.met.gone c.in_ok-put.ensures.counts
    (c.in_ok-met.ensures.gone ∙ met_bag p s.counts.entries c.rows_met.ensures.once)
    ∙ ap (λ t. added t.present (negated (filtered p (entries t.present)))) c.self.view_is

-- so many as met the condition
pub returns-clause-number : goal.returns-clause-number
returns-clause-number c =
    let p = meets c.args.cond.now in
    c.in_ok-met.ensures.number ∙ met_mass p c.self.inside.counts.entries c.rows_met.ensures.once c.self.invariant.now.counts
    ∙ ap (λ t. mass (filtered p (entries t.present))) c.self.view_is

-- and the mark stays
pub returns-clause-marked : goal.returns-clause-marked
returns-clause-marked c =
    then_moved c.self.inside.counts.entries c.put.new.counts.entries c.self.inside.changes c.in_ok-met.met.gone c.put.new.changes c.in_ok-put.ensures.counts
    c.in_ok-put.ensures.changes
    ∙ ap (λ t. t.marked) c.self.view_is

-- no more go than there are
pub overflow_sub-self : goal.overflow_sub-self
overflow_sub-self c =
    let s = c.self.inside in
    let p = meets c.args.cond.now in
    omega (
      arith,
      c.in_ok-met.ensures.number,
      met_mass p s.counts.entries c.rows_met.ensures.once c.self.invariant.now.counts,
      gone_number s.rows (rows_now s.counts.entries) p c.self.invariant.now,
    )
