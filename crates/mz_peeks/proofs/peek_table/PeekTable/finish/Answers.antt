use Rattle.std.proofs.Common.{not, subst, sym}
use Rattle.mz_books.specs.Holds.{is_peek}
use Rattle.mz_peeks.specs.Kept.{IsKept}
use Rattle.mz_peeks.proofs.Rising.{kept_left}
use Rattle.mz_peeks.proofs.peek_table.PeekTable.finish.Goals as goal

-- those that are left are in order
pub invariant_of-self : goal.invariant_of-self
invariant_of-self c =
    let t = c.self.inside in
    subst (λ xs. IsKept xs t.made 0 t.marked_made) (sym c.let_go-gone.ensures.left)
    (kept_left (λ waiting. not (is_peek c.args.peek waiting)) t.pending.items t.made t.mark t.marked_made c.self.invariant)
