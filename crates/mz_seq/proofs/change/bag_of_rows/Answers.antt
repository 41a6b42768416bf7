use Rattle.std.proofs.Common.{◌≡◌, ◌≤◌, ◌+◌, drop, length, pos, sym, subst, arith}
use Rattle.mz_bag.specs.Bag.{Counts}
use Rattle.mz_bag.specs.Weighted.{each_once}
use Rattle.mz_plan.specs.Small.{most_rows}
use Rattle.mz_seq.proofs.Making.{Makes, makes_none, makes_fits, makes_next, once_taken, once_all}
use Rattle.mz_seq.proofs.TableLemmas.{mass_once}
use Rattle.mz_seq.proofs.change.bag_of_rows.Goals as goal

-- no row is taken yet
pub rows-init : goal.rows-init
rows-init c =
    subst (λ (b : Counts). Makes b (each_once c.args.rows.now) (each_once c.args.rows.now)) (sym c.empty-bag.ensures)
    (makes_none (each_once c.args.rows.now) (subst (λ n. n ≤ most_rows) (sym (mass_once c.args.rows.now)) c.requires))

-- the next row fits
pub add-requires : goal.add-requires
add-requires c =
    makes_fits c.rows.bag c.in_ok-try_copy.field-0 (pos 1) (each_once (drop (c.rows.row-index + 1) c.args.rows.now)) (each_once c.args.rows.now)
    (once_taken c.args.rows.now c.rows.row-index c.row-item.result c.in_ok-try_copy.field-0 c.rows.bag (each_once c.args.rows.now)
    c.rows-test.true c.row-item.is c.in_ok-try_copy.ensures c.rows.invariant)

-- one row more
pub rows-preserved : goal.rows-preserved
rows-preserved c =
    subst (λ (b : Counts). Makes b (each_once (drop (c.rows.row-index + 1) c.args.rows.now)) (each_once c.args.rows.now)) (sym c.in_ok-add.ensures.ok)
    (makes_next c.rows.bag c.in_ok-try_copy.field-0 (pos 1) (each_once (drop (c.rows.row-index + 1) c.args.rows.now)) (each_once c.args.rows.now)
    (once_taken c.args.rows.now c.rows.row-index c.row-item.result c.in_ok-try_copy.field-0 c.rows.bag (each_once c.args.rows.now)
    c.rows-test.true c.row-item.is c.in_ok-try_copy.ensures c.rows.invariant))

-- all are taken
pub returns : goal.returns
returns c =
    let end : c.rows.row-index ≡ length c.args.rows.now = omega arith in
    once_all c.args.rows.now c.rows.row-index c.rows.bag end c.rows.invariant
