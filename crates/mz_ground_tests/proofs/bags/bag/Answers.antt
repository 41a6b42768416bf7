use Rattle.std.proofs.Common.{FitsSigned, SFits, pos, sym, ap, subst, rules, ◌∙◌}
use Rattle.std.specs.Int.{w32}
use Rattle.std.proofs.lemmas.Int.{ints}
use Rattle.mz_bag.specs.Bag.{Counts, count_in}
use Rattle.mz_bag.proofs.BagLaws.{count_in-empty}
use Rattle.mz_ground_tests.proofs.bags.bag.Goals as goal

-- at first nothing is counted
pub changes-init : goal.changes-init
changes-init g c = λ q.
    let fits : SFits w32 (pos 0) = search (rules, ints) in
    subst (FitsSigned w32) (sym (ap (λ (b : Counts). count_in b q) c.empty-bag.ensures ∙ count_in-empty q)) fits
