use Rattle.std.proofs.Common.{◌≡◌, ◌+◌, ◌+ℤ◌, neg_ℤ, nat_abs, rules, SFits, refl, sym, ap, subst, ◌∙◌, arith}
use Rattle.std.specs.Int.{w128}
use Rattle.std.proofs.lemmas.Int.{ints, to_z-of_z}
use Rattle.mz_bag.specs.Bag.{Counts, count_in, with_count, Fits}
use Rattle.mz_bag.specs.Mass.{mass}
use Rattle.mz_bag.specs.Weighted.{Weighted, negated}
use Rattle.mz_plan.specs.Operators.{filtered}
use Rattle.mz_plan_laws.proofs.Bounds.{mass_filtered}
use Rattle.mz_log.specs.CarriedOut.{meets}
use Rattle.mz_seq.proofs.Making.{Makes, makes_none, makes_fits, makes_next, makes_all, met_next, met_small, met_fits}
use Rattle.mz_seq.proofs.ViewLemmas.{met_few, met_number, now_mass}
use Rattle.mz_seq.proofs.change.rows_met.Goals as goal

-- all rows are to come
pub rows-init : goal.rows-init
rows-init c =
    let p = meets c.args.cond.now in
    let all = negated (filtered p c.args.counts.now.entries) in
    let start : c.into_iter-row-iterator.result ≡ c.args.counts.now.entries = c.into_iter-row-iterator.ensures.into_iter_gives ∙ c.iter-row-items.ensures.rest in
    record {
      makes = subst (λ (es : Weighted). Makes c.empty-gone.result (negated (filtered p es)) all) (sym start)
          (subst (λ (b : Counts). Makes b all all) (sym c.empty-gone.ensures) (makes_none all (met_few p c.args.counts.now.entries c.len-rows.ensures.unique c.requires)));
      number = ap (λ (es : Weighted). 0 + mass (filtered p es)) start ∙ omega arith;
    }

-- a count is no greater than all
pub size-requires : goal.size-requires
size-requires c =
    let ranged : SFits w128 c.in-Some.count.now = search (rules, ints) in
    rw to_z-of_z (met_small c.in-Some.row.now c.in-Some.count.now c.rows.gone _ _
    (met_next (meets c.args.cond.now) c.rows.row-iterator c.next.new.self c.in-Some.row.now c.in-Some.row.now c.in-Some.count.now c.rows.gone _
    c.in-Some.ensures.steps (sym c.if-meets.ensures) refl c.rows.invariant.makes))

-- and the number is no greater
pub overflow_add-number : goal.overflow_add-number
overflow_add-number c =
    let ranged : SFits w128 c.in-Some.count.now = search (rules, ints) in
    let p = meets c.args.cond.now in
    let size : c.size.result ≡ nat_abs c.in-Some.count.now = rw to_z-of_z at c.size.ensures in
    omega (
      arith,
      size,
      c.rows.invariant.number,
      met_number p c.rows.row-iterator c.next.new.self c.in-Some.row.now c.in-Some.count.now c.in-Some.ensures.steps (sym c.if-meets.ensures),
      mass_filtered p c.args.counts.now.entries,
      now_mass c.args.counts.now.entries c.len-rows.ensures.unique,
      c.requires,
    )

-- so its negative fits
pub negative-requires : goal.negative-requires
negative-requires c =
    let ranged : SFits w128 c.in-Some.count.now = search (rules, ints) in
    rw to_z-of_z (met_fits c.in-Some.count.now (met_small c.in-Some.row.now c.in-Some.count.now c.rows.gone _ _
    (met_next (meets c.args.cond.now) c.rows.row-iterator c.next.new.self c.in-Some.row.now c.in-Some.row.now c.in-Some.count.now c.rows.gone _
    c.in-Some.ensures.steps (sym c.if-meets.ensures) refl c.rows.invariant.makes)))

-- the next row fits
pub add-requires : goal.add-requires
add-requires c =
    let ranged : SFits w128 c.in-Some.count.now = search (rules, ints) in
    let ranged_too : SFits w128 c.negative.result = search (rules, ints) in
    let p = meets c.args.cond.now in
    let copy = c.in_ok-try_copy.field-0 in
    let negative : c.negative.result ≡ neg_ℤ c.in-Some.count.now = rw to_z-of_z at c.negative.ensures in
    let next = met_next p c.rows.row-iterator c.next.new.self c.in-Some.row.now copy c.in-Some.count.now c.rows.gone (negated (filtered p c.args.counts.now.entries))
    c.in-Some.ensures.steps (sym c.if-meets.ensures) c.in_ok-try_copy.ensures c.rows.invariant.makes in
    rw to_z-of_z (subst (λ z. Fits (count_in c.rows.gone copy +ℤ z)) (sym negative)
    (makes_fits c.rows.gone copy (neg_ℤ c.in-Some.count.now) (negated (filtered p c.next.new.self)) (negated (filtered p c.args.counts.now.entries)) next))

-- one row more
pub rows-preserved-in_ok-add : goal.rows-preserved-in_ok-add
rows-preserved-in_ok-add c =
    let ranged : SFits w128 c.in-Some.count.now = search (rules, ints) in
    let ranged_too : SFits w128 c.negative.result = search (rules, ints) in
    let p = meets c.args.cond.now in
    let copy = c.in_ok-try_copy.field-0 in
    let all = negated (filtered p c.args.counts.now.entries) in
    let negative : c.negative.result ≡ neg_ℤ c.in-Some.count.now = rw to_z-of_z at c.negative.ensures in
    let next = met_next p c.rows.row-iterator c.next.new.self c.in-Some.row.now copy c.in-Some.count.now c.rows.gone all
    c.in-Some.ensures.steps (sym c.if-meets.ensures) c.in_ok-try_copy.ensures c.rows.invariant.makes in
    let added : c.add.new.self ≡ with_count c.rows.gone copy (count_in c.rows.gone copy +ℤ c.negative.result) = rw to_z-of_z at c.in_ok-add.ensures.ok in
    let size : c.size.result ≡ nat_abs c.in-Some.count.now = rw to_z-of_z at c.size.ensures in
    record {
      makes = subst (λ (b : Counts). Makes b (negated (filtered p c.next.new.self)) all)
          (sym (added ∙ ap (λ z. with_count c.rows.gone copy (count_in c.rows.gone copy +ℤ z)) negative))
          (makes_next c.rows.gone copy (neg_ℤ c.in-Some.count.now) (negated (filtered p c.next.new.self)) all next);
      number = omega (
        arith,
        size,
        c.rows.invariant.number,
        met_number p c.rows.row-iterator c.next.new.self c.in-Some.row.now c.in-Some.count.now c.in-Some.ensures.steps (sym c.if-meets.ensures),
      );
    }

-- all are taken
pub returns-clause-gone : goal.returns-clause-gone
returns-clause-gone c =
    makes_all c.rows.gone (negated (filtered (meets c.args.cond.now) c.args.counts.now.entries))
    (subst (λ (es : Weighted). Makes c.rows.gone (negated (filtered (meets c.args.cond.now) es)) (negated (filtered (meets c.args.cond.now) c.args.counts.now.entries)))
    c.in-None.ensures.steps.0 c.rows.invariant.makes)
