use Rattle.std.proofs.Common.{◌≡◌, ◌+ℤ◌, rules, SFits, sym, ◌∙◌}
use Rattle.std.specs.Int.{w128}
use Rattle.std.proofs.lemmas.Int.{ints, to_z-of_z}
use Rattle.mz_seq.proofs.StoredLemmas.{count_changed, places_stay}
use Rattle.mz_seq.proofs.counts.add_at.Goals as goal

-- the row's own count is changed
pub returns-in-Some-clause-counts : goal.returns-in-Some-clause-counts
returns-in-Some-clause-counts c =
    let ranged = c.ranges.diff in
    let before : SFits w128 c.index.result.now = search (rules, ints) in
    let after : SFits w128 c.sum.result = search (rules, ints) in
    let sum : c.sum.result ≡ c.index.result.now +ℤ c.args.diff = rw to_z-of_z at (rw to_z-of_z at c.sum.ensures) in
    rw to_z-of_z (count_changed c.args.counts.now.entries c.args.row.now c.in-Some.place c.index.result.now c.sum.result c.args.diff
    (sym c.in-Some.ensures.index) (sym c.index.ensures ∙ c.in-Some.ensures.value) sum)

-- and each row that had a count has one
pub returns-in-Some-clause-places : goal.returns-in-Some-clause-places
returns-in-Some-clause-places c =
    places_stay c.args.counts.now.entries c.args.row.now c.in-Some.place c.index.result.now _
    (sym c.in-Some.ensures.index) (sym c.index.ensures ∙ c.in-Some.ensures.value)
