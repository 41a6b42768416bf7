use Rattle.std.proofs.Common.{◌+◌, subst, sym, refl}
use Rattle.mz_peeks.specs.Kept.{IsKept}
use Rattle.mz_peeks.proofs.Rising.{kept_more}
use Rattle.mz_peeks.proofs.peek_table.PeekTable.submit.Goals as goal

-- the peek stands behind the others
pub invariant_of-self-2 : goal.invariant_of-self-2
invariant_of-self-2 c =
    let t = c.self.inside in
    subst (λ xs. IsKept xs (t.made + 1) t.mark t.marked_made) (sym c.in_ok-push.ensures.items)
    (kept_more t.pending.items t.made t.mark t.marked_made _ c.self.invariant refl)
