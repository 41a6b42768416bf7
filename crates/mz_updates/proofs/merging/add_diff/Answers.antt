use Rattle.std.proofs.Common.{ℤ, SFits, ap, rules}
use Rattle.std.specs.Int.{w128}
use Rattle.std.proofs.lemmas.Int.{ints, wrapping_add_is}
use Rattle.mz_updates.proofs.merging.add_diff.Goals as goal

-- what the machine's addition leaves is the sum, wrapped
pub returns : goal.returns
returns c =
    let diff : SFits w128 c.args.update.now.diff = search (rules, ints) in
    ap (λ (z : ℤ). record { row = c.args.update.now.row; time = c.args.update.now.time; diff = z }) (wrapping_add_is w128 c.args.update.now.diff c.args.diff diff c.ranges.diff)
