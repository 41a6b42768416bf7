use Rattle.std.proofs.Common.{ap, ◌∙◌}
use Rattle.mz_counted.specs.Counted.{count}
use Rattle.mz_holds.specs.HoldBook.{times_on}
use Rattle.mz_holds.specs.Kept.{times_at}
use Rattle.mz_holds.proofs.Tabled.{count_kept}
use Rattle.mz_holds.proofs.hold_table.HoldTable.count.Goals as goal

pub returns : goal.returns
returns c =
    c.how_often.ensures ∙ ap (λ xs. count c.args.t (times_at c.args.collection xs)) c.deref.ensures.value
    ∙ count_kept c.args.collection c.args.t c.self.inside.live.items c.self.inside.counted.items c.self.invariant.counted
    ∙ ap (λ v. count c.args.t (times_on c.args.collection v.present.live)) c.self.view_is
