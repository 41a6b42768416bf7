use Rattle.std.proofs.Common.{ap, sym, subst, ◌∙◌}
use Rattle.mz_bag.specs.Bag.{map_of, IsStored}
use Rattle.mz_bag.specs.Weighted.{negation_of}
use Rattle.mz_bag.proofs.NegatedCounts.{IsStored-negated, map_of-negated}
use Rattle.mz_bag.proofs.bag.Bag.negate.Goals as goal

-- the bound is the same on both sides of 0
pub invariant_of-self : goal.invariant_of-self
invariant_of-self c = subst (λ es. IsStored (map_of es)) (sym c.negate_all.ensures) (IsStored-negated c.self.inside.counts.entries c.self.invariant)

-- each row's count is the negative
pub returns : goal.returns
returns c = ap map_of c.negate_all.ensures ∙ map_of-negated c.self.inside.counts.entries c.self.invariant ∙ ap negation_of c.self.view_is
