use Rattle.std.proofs.Common.{◌≡◌, ◌+ℤ◌, rules, SFits, sym, subst, ◌∙◌, le_trans}
use Rattle.std.specs.Int.{w128}
use Rattle.std.proofs.lemmas.Int.{ints, to_z-of_z}
use Rattle.mz_bag.specs.Bag.{Counts, count_in, with_count}
use Rattle.mz_bag.specs.Weighted.{Weighted}
use Rattle.mz_seq.proofs.CopiedLemmas.{copied_row, copied_all}
use Rattle.mz_seq.proofs.Making.{Makes, makes_none, makes_fits, makes_next}
use Rattle.mz_seq.proofs.ViewLemmas.{now_mass}
use Rattle.mz_seq.proofs.counts.copied_rows.Goals as goal

-- all rows are to come
pub rows-init : goal.rows-init
rows-init c =
    let all = c.args.counts.now.entries in
    let start : c.into_iter-row-iterator.result ≡ all = c.into_iter-row-iterator.ensures.into_iter_gives ∙ c.iter-row-items.ensures.rest in
    subst (λ (es : Weighted). Makes c.empty-bag.result es all) (sym start)
    (subst (λ (b : Counts). Makes b all all) (sym c.empty-bag.ensures) (makes_none all (le_trans (now_mass all c.len-rows.ensures.unique) c.requires)))

-- the next row fits
pub add-requires : goal.add-requires
add-requires c =
    let ranged : SFits w128 c.in-Some.count.now = search (rules, ints) in
    let all = c.args.counts.now.entries in
    let copy = c.in_ok-try_copy.field-0 in
    let next = copied_row c.rows.row-iterator c.next.new.self c.in-Some.row.now copy c.in-Some.count.now c.rows.bag all
    c.in-Some.ensures.steps c.in_ok-try_copy.ensures c.rows.invariant in
    rw to_z-of_z (makes_fits c.rows.bag copy c.in-Some.count.now c.next.new.self all next)

-- one row more
pub rows-preserved : goal.rows-preserved
rows-preserved c =
    let ranged : SFits w128 c.in-Some.count.now = search (rules, ints) in
    let all = c.args.counts.now.entries in
    let copy = c.in_ok-try_copy.field-0 in
    let next = copied_row c.rows.row-iterator c.next.new.self c.in-Some.row.now copy c.in-Some.count.now c.rows.bag all
    c.in-Some.ensures.steps c.in_ok-try_copy.ensures c.rows.invariant in
    let added : c.add.new.self ≡ with_count c.rows.bag copy (count_in c.rows.bag copy +ℤ c.in-Some.count.now) = rw to_z-of_z at c.in_ok-add.ensures.ok in
    subst (λ (b : Counts). Makes b c.next.new.self all) (sym added)
    (makes_next c.rows.bag copy c.in-Some.count.now c.next.new.self all next)

-- all are copied
pub returns : goal.returns
returns c =
    copied_all c.args.counts.now.entries c.rows.bag c.len-rows.ensures.unique
    (subst (λ (es : Weighted). Makes c.rows.bag es c.args.counts.now.entries) c.in-None.ensures.steps.0 c.rows.invariant)
