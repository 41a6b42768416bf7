-- The types of all tables, from state to state.
use Rattle.std.proofs.Common.{◌<◌, ℕ, ◌∙◌, subst, arith}
use Rattle.mz_bag.specs.Bag.{Counts}
use Rattle.mz_resolve_laws.specs.TypedOver.{LeafTypes}
use Rattle.mz_log.specs.Sequential.{Sequential}
use Rattle.mz_state_laws.specs.Growth.{Continues}
use Rattle.mz_state_laws.specs.Well.{IsTableBag, IsWellAfter}

-- a state that is well after one that is well after another is so after that
pub well_twice : (types : LeafTypes) (one two three : Sequential) → Continues one two → (first : IsWellAfter types one two)
    → IsWellAfter first.later two three → IsWellAfter types one three
well_twice types one two three continues first second = record {
  later = second.later;
  same = λ number less. first.same number less ∙ second.same number (omega (arith, less, continues.next));
  over = second.over;
}

-- what a table might have it may have later
pub bag_later : (types : LeafTypes) (before after : Sequential) (later : IsWellAfter types before after) (number : ℕ) (bag : Counts)
    → number < before.database.next → IsTableBag (types number) bag → IsTableBag (later.later number) bag
bag_later types before after later number bag less is = subst (λ ts. IsTableBag ts bag) (later.same number less) is
