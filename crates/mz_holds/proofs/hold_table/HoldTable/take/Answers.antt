use Rattle.std.proofs.Common.{◌+◌, ap, subst, sym, refl, ◌∙◌}
use Rattle.mz_counted.specs.Counted.{inserted}
use Rattle.mz_holds.specs.Kept.{IsKept, changed_at}
use Rattle.mz_holds.proofs.Tabled.{kept_more}
use Rattle.mz_holds.proofs.hold_table.HoldTable.take.Goals as goal

-- the hold stands behind the others, and its time is counted
pub invariant_of-self-2 : goal.invariant_of-self-2
invariant_of-self-2 c =
    let t = c.self.inside in
    subst (λ xs. IsKept xs (t.taken + 1) t.mark t.marked_taken c.come.new.counted.items) (sym c.in_ok-push.ensures.items)
    (kept_more t.live.items t.taken t.mark t.marked_taken t.counted.items c.come.new.counted.items _ c.self.invariant refl
    (λ d. c.come.ensures d ∙ ap (λ ts. changed_at c.args.collection (inserted c.args.t) d ts) (c.make_room.ensures.same d)))
