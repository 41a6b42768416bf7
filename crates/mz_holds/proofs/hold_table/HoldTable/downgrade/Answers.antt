use Rattle.std.proofs.Common.{ap, subst, sym, ◌∙◌}
use Rattle.mz_holds.specs.HoldBook.{hold_of}
use Rattle.mz_holds.specs.Kept.{IsKept}
use Rattle.mz_holds.proofs.Tabled.{is_counted, kept_moved}
use Rattle.mz_holds.proofs.hold_table.HoldTable.downgrade.Goals as goal

-- what is found is counted
pub shift-requires : goal.shift-requires
shift-requires c =
    is_counted c.args.hold c.self.inside.live.items c.self.inside.counted.items c.found-moved.result c.self.invariant.numbered.rising c.self.invariant.counted
    (ap (hold_of c.args.hold) (sym c.deref.ensures.value) ∙ c.found-moved.ensures)

-- and its time moves with it
pub invariant_of-self : goal.invariant_of-self
invariant_of-self c =
    let t = c.self.inside in
    subst (λ xs. IsKept xs t.taken 0 t.marked_taken c.shift.new.counted.items) (sym c.move_to.ensures)
    (kept_moved c.args.hold c.args.t t.live.items t.taken t.mark t.marked_taken t.counted.items c.shift.new.counted.items c.found-moved.result c.self.invariant
    (ap (hold_of c.args.hold) (sym c.deref.ensures.value) ∙ c.found-moved.ensures) c.shift.ensures)
