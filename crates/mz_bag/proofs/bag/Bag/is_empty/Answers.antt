use Rattle.std.proofs.Common.{◌≡◌, ℤ, ap, sym, ◌∙◌, arith}
use Rattle.std.specs.FinMap.{len, empty_of_len, len-empty}
use Rattle.std.proofs.lemmas.Bool.Decides.{nat_tests}
use Rattle.mz_value.specs.Row.{row_cmp}
use Rattle.mz_bag.proofs.bag.Bag.is_empty.Goals as goal

-- a map with no entry is the empty one
pub returns : goal.returns
returns c = (
  λ t. let none : c.len.result ≡ 0 = grind (arith, nat_tests) in empty_of_len c.args.self.now (sym c.len.ensures.count ∙ none),
  λ e. let none : c.len.result ≡ 0 = c.len.ensures.count ∙ ap len e ∙ len-empty row_cmp ℤ in grind (arith, nat_tests),
)
