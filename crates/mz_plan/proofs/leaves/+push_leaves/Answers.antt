use Rattle.std.proofs.Common.{◌++◌, sym, ap, ◌∙◌, append_assoc, List, ℕ}
use Rattle.mz_plan.specs.Leaves.{leaves_of}
use Rattle.mz_plan.proofs.LeafRules.{leaves_of_join, leaves_of_union}
use Rattle.mz_plan.proofs.leaves.+push_leaves.Goals as goal

-- those of the left side, and then those of the right side
pub returns-in_ok-push_leaves-in-Join-2 : goal.returns-in_ok-push_leaves-in-Join-2
returns-in_ok-push_leaves-in-Join-2 t c =
    c.in_ok-push_leaves-in-Join-2.ensures
    ∙ (λ i. (c.in_ok-push_leaves-in-Join.ensures ∙ ap (λ p. c.args.found.now.items ++ leaves_of p) c.get-in-Join.ensures) i
    ++ leaves_of (c.get-in-Join-2.ensures i))
    ∙ append_assoc c.args.found.now.items (leaves_of c.in-Join.left) (leaves_of c.in-Join.right)
    ∙ ap (λ (leaves : List ℕ). c.args.found.now.items ++ leaves)
    (sym (leaves_of_join c.in-Join.left c.in-Join.right c.in-Join._pairs) ∙ ap leaves_of (sym c.in-Join.is))

-- and so in a union
pub returns-in_ok-push_leaves-in-Union-2 : goal.returns-in_ok-push_leaves-in-Union-2
returns-in_ok-push_leaves-in-Union-2 t c =
    c.in_ok-push_leaves-in-Union-2.ensures
    ∙ (λ i. (c.in_ok-push_leaves-in-Union.ensures ∙ ap (λ p. c.args.found.now.items ++ leaves_of p) c.get-in-Union.ensures) i
    ++ leaves_of (c.get-in-Union-2.ensures i))
    ∙ append_assoc c.args.found.now.items (leaves_of c.in-Union.left) (leaves_of c.in-Union.right)
    ∙ ap (λ (leaves : List ℕ). c.args.found.now.items ++ leaves)
    (sym (leaves_of_union c.in-Union.left c.in-Union.right) ∙ ap leaves_of (sym c.in-Union.is))
