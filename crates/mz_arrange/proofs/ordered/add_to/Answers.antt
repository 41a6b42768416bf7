use Rattle.std.proofs.Common.{◌≡◌, ◌+ℤ◌, rules, SFits, ap, ◌∙◌}
use Rattle.std.specs.Int.{w128}
use Rattle.std.proofs.lemmas.Int.{ints, to_z-of_z}
use Rattle.mz_arrange.proofs.OrderedLaws.{same_added}
use Rattle.mz_arrange.proofs.ordered.add_to.Goals as goal

-- the new count is the old one with the diff
pub returns-clause-added : goal.returns-clause-added
returns-clause-added c =
    let first : SFits w128 c.count_of.result = search (rules, ints) in
    let second : SFits w128 c.args.diff = search (rules, ints) in
    let third : SFits w128 c.sum-number.result = search (rules, ints) in
    let sum : c.sum-number.result ≡ c.count_of.result +ℤ c.args.diff = rw (to_z-of_z, to_z-of_z) at c.sum-number.ensures in
    let counts = rw to_z-of_z at c.set_count.ensures.counts in
    same_added c.args.rows.now c.set_count.new.rows c.args.row c.args.diff c.sum-number.result (sum ∙ ap (λ z. z +ℤ c.args.diff) c.count_of.ensures) counts
