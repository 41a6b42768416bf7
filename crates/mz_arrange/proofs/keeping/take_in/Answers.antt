use Rattle.std.proofs.Common.{◌≡◌, ◌+◌, ◌+ℤ◌, ◌++◌, List, sym, subst, ◌∙◌}
use Rattle.std.specs.FinMap.{entries}
use Rattle.mz_bag.specs.Bag.{Counts, count_in, Fits}
use Rattle.mz_bag.specs.Weighted.{bag_of, count}
use Rattle.mz_value.specs.declared.datum.Datum.{Datum}
use Rattle.mz_updates.specs.declared.update.Update.{Update}
use Rattle.mz_updates.specs.Contents.{between, contents, IsBefore, SameFrom}
use Rattle.mz_arrange.specs.Kept.{behind, SameRows}
use Rattle.mz_arrange.proofs.ArrangedLaws.{fits_light, fits_with, same_rows, same_taken, before_taken}
use Rattle.mz_arrange.proofs.keeping.take_in.Goals as goal

-- a bag can have what light updates contain
pub contents-requires : goal.contents-requires
contents-requires c = fits_light c.args.since c.args.later.now c.requires.light

-- and there is room for it among the rows
pub add_bag-requires : goal.add_bag-requires
add_bag-requires c =
    subst (λ (b : Counts). (q : List Datum) → Fits (count q c.args.rows.now.entries +ℤ count_in b q)) (sym c.in_ok-due.ensures)
    (fits_with c.args.since c.args.rows.now.entries c.args.later.now c.requires.fits)

-- without memory each row is there as often as before
pub returns-in_err-add_bag-clause-same : goal.returns-in_err-add_bag-clause-same
returns-in_err-add_bag-clause-same c = same_rows c.args.since c.args.rows.now.entries c.add_bag.new.rows.entries c.args.later.now c.in_err-add_bag.ensures.err

-- what is left is before the upper
pub returns-clause-before : goal.returns-clause-before
returns-clause-before c =
    let is : c.in_ok-rest.rest ≡ between (c.args.since + 1) c.args.upper c.args.later.now =
    c.in_ok-rest.ensures ∙ (λ i. between (c.number.ensures.value i + 1) (c.number-2.ensures.value i) (c.as_slice.ensures i)) in
    subst (IsBefore c.args.upper) (sym is) (before_taken (c.args.since + 1) c.args.upper c.args.later.now c.requires.before)

-- and all is the same from the since on
pub returns-clause-same : goal.returns-clause-same
returns-clause-same c =
    let is : c.in_ok-rest.rest ≡ between (c.args.since + 1) c.args.upper c.args.later.now =
    c.in_ok-rest.ensures ∙ (λ i. between (c.number.ensures.value i + 1) (c.number-2.ensures.value i) (c.as_slice.ensures i)) in
    let taken : SameRows c.add_bag.new.rows.entries (c.args.rows.now.entries ++ entries (bag_of (contents c.args.since c.args.later.now))) =
    subst (λ (b : Counts). SameRows c.add_bag.new.rows.entries (c.args.rows.now.entries ++ entries b)) c.in_ok-due.ensures c.in_ok-add_bag.ensures.ok in
    subst (λ (us : List Update). SameFrom c.args.since (behind c.add_bag.new.rows.entries us) (behind c.args.rows.now.entries c.args.later.now)) (sym is)
    (same_taken c.args.since c.args.upper c.args.rows.now.entries c.add_bag.new.rows.entries c.args.later.now taken c.requires.before)
