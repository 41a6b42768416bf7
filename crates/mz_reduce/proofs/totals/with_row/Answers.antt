use Rattle.std.proofs.Common.{ℤ, ◌+ℤ◌, ◌*ℤ◌, SFits, ap, ◌∙◌, rules}
use Rattle.std.specs.Int.{w128, int_wrap}
use Rattle.std.proofs.lemmas.Int.{ints, to_z-of_z}
use Rattle.mz_reduce.proofs.totals.with_row.Goals as goal

-- what the row adds is added, wrapped at both steps
pub returns : goal.returns
returns c =
    let diff : SFits w128 c.args.diff = search (rules, ints) in
    let number : SFits w128 c.adds.result = search (rules, ints) in
    let total : SFits w128 c.args.total.now.1 = search (rules, ints) in
    let part : SFits w128 c.product-number.result = search (rules, ints) in
    let product = rw (to_z-of_z, to_z-of_z) at c.product-number.ensures in
    let sum = rw (to_z-of_z, to_z-of_z) at c.sum.ensures in
    let after : SFits w128 c.sum.result = search (rules, ints) in
    rw to_z-of_z (ap (λ (z : ℤ). (c.args.total.now.0, z))
    (sum ∙ ap (λ (z : ℤ). int_wrap w128 (c.args.total.now.1 +ℤ z))
    (product ∙ ap (λ (z : ℤ). int_wrap w128 (c.args.diff *ℤ z)) c.adds.ensures)))
