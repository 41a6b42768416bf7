use Rattle.std.proofs.Common.{◌∙◌, sym, ap, map}
use Rattle.mz_time.specs.Frontier.{meet}
use Rattle.mz_rules.specs.Capabilities.{of_hold}
use Rattle.mz_collections.proofs.Settling.{least_of_both}
use Rattle.mz_collections.proofs.sinces.own.Goals as goal

-- what holds and peeks keep is the lesser of theirs
pub returns : goal.returns
returns c =
    c.meet.ensures ∙ ap (meet c.args.this.now.implied) (c.meet-held.ensures ∙ (λ i. meet (c.least.ensures i) (c.least-2.ensures i))
    ∙ sym (least_of_both c.args.this.now.number (map of_hold c.args.holds.now.present.live) (map of_hold c.args.peeks.now.present.live)))
