use Rattle.std.proofs.Common.{ap, subst, sym, ◌∙◌}
use Rattle.mz_holds.specs.HoldBook.{hold_of}
use Rattle.mz_holds.specs.Kept.{IsKept}
use Rattle.mz_holds.proofs.Tabled.{is_counted, kept_less}
use Rattle.mz_holds.proofs.hold_table.HoldTable.release.Goals as goal

-- what is found is counted
pub go-requires : goal.go-requires
go-requires c =
    is_counted c.args.hold c.self.inside.live.items c.self.inside.counted.items c.found-gone.result c.self.invariant.numbered.rising c.self.invariant.counted
    (ap (hold_of c.args.hold) (sym c.deref.ensures.value) ∙ c.found-gone.ensures)

-- and its time goes with it
pub invariant_of-self : goal.invariant_of-self
invariant_of-self c =
    let t = c.self.inside in
    subst (λ xs. IsKept xs t.taken 0 t.marked_taken c.go.new.counted.items) (sym c.let_go.ensures)
    (kept_less c.args.hold t.live.items t.taken t.mark t.marked_taken t.counted.items c.go.new.counted.items c.found-gone.result c.self.invariant
    (ap (hold_of c.args.hold) (sym c.deref.ensures.value) ∙ c.found-gone.ensures) c.go.ensures)
