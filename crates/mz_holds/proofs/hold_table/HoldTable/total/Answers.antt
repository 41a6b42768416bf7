use Rattle.std.proofs.Common.{ap, ◌∙◌, length}
use Rattle.mz_holds.specs.HoldBook.{times_on}
use Rattle.mz_holds.specs.Kept.{times_at}
use Rattle.mz_holds.proofs.Tabled.{total_kept}
use Rattle.mz_holds.proofs.hold_table.HoldTable.total.Goals as goal

pub returns : goal.returns
returns c =
    c.how_many.ensures ∙ ap (λ xs. length (times_at c.args.collection xs)) c.deref.ensures.value
    ∙ total_kept c.args.collection c.self.inside.live.items c.self.inside.counted.items c.self.invariant.counted
    ∙ ap (λ v. length (times_on c.args.collection v.present.live)) c.self.view_is
