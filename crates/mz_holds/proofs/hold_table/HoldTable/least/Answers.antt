use Rattle.std.proofs.Common.{ap, ◌∙◌, map}
use Rattle.mz_counted.specs.Counted.{least_of}
use Rattle.mz_rules.specs.Capabilities.{of_hold}
use Rattle.mz_rules.specs.Since.{least_on}
use Rattle.mz_holds.specs.Kept.{times_at}
use Rattle.mz_holds.proofs.Tabled.{least_kept}
use Rattle.mz_holds.proofs.hold_table.HoldTable.least.Goals as goal

pub returns : goal.returns
returns c =
    c.least.ensures ∙ ap (λ xs. least_of (times_at c.args.collection xs)) c.deref.ensures.value
    ∙ least_kept c.args.collection c.self.inside.live.items c.self.inside.counted.items c.self.invariant.counted
    ∙ ap (λ v. least_on c.args.collection (map of_hold v.present.live)) c.self.view_is
