-- Lists that start at a time with rows, or with what they lack of them.
use Rattle.std.proofs.Common.{ℕ, ◌≤◌, ◌+ℤ◌, List, [], ◌++◌, refl, sym, ap, ◌∙◌, arith}
use Rattle.mz_bag.specs.Weighted.{count, Weighted}
use Rattle.mz_bag.proofs.BagLaws.{count-append}
use Rattle.mz_plan_laws.specs.Alike.{Alike}
use Rattle.mz_updates.specs.declared.update.Update.{Update}
use Rattle.mz_updates.specs.Contents.{contents, stamped, weights, IsBefore}
use Rattle.mz_updates.proofs.ContentsLaws.{contents-append}
use Rattle.mz_dataflow.proofs.FlowLaws.{at_on}

-- a list that is behind, given at a time what it lacks of some rows, contains them from then on, and what changes later
pub caught_up : (us more : List Update) (lack ws : Weighted) (upper start t : ℕ) → IsBefore upper us → upper ≤ start → start ≤ t
    → Alike (weights us ++ lack) ws → Alike (contents t ((us ++ stamped start lack) ++ more)) (ws ++ contents t more)
caught_up us more lack ws upper start t h k l alike q =
    ap (count q) (contents-append t (us ++ stamped start lack) more) ∙ count-append q (contents t (us ++ stamped start lack)) (contents t more)
    ∙ ap (λ z. z +ℤ count q (contents t more)) (ap (count q) (at_on t start upper us lack h k l) ∙ alike q)
    ∙ sym (count-append q ws (contents t more))

-- and so does a list that begins with the rows
pub begun : (more : List Update) (ws : Weighted) (start t : ℕ) → start ≤ t → Alike (contents t (stamped start ws ++ more)) (ws ++ contents t more)
begun more ws start t l = caught_up [] more ws ws 0 start t (record { each = tt }) (omega arith) l (λ q. refl)
