use Rattle.std.proofs.Common.{◌≡◌, rules}
use Rattle.std.specs.Ordering.{is_lt}
use Rattle.std.proofs.lemmas.Fn.{always_returns_same}
use Rattle.std.proofs.lemmas.List.Sorted.{ranks_by}
use Rattle.mz_updates.specs.Consolidated.{update_cmp}
use Rattle.mz_updates.proofs.CarriedLists.{update_total}
use Rattle.mz_updates.proofs.merging.sort.Goals as goal

-- each comparison is that of the order
pub returns-clause-sorted : goal.returns-clause-sorted
returns-clause-sorted c =
    c.sort_unstable_by.ensures.sorted (λ u v. is_lt (update_cmp u v)) (ranks_by update_total (λ u. u))
    (always_returns_same _ (λ a r. is_lt r ≡ is_lt (update_cmp a.0.now a.1.0.now)) _ (λ a r f' k. search rules))
