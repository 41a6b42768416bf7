use Rattle.std.proofs.Common.{ap, sym, ◌∙◌}
use Rattle.std.specs.List.{position}
use Rattle.std.specs.Prelude.{bytes_eq}
use Rattle.mz_history.specs.Kept.{presents}
use Rattle.mz_history.proofs.Counts.{more_missed}
use Rattle.mz_history.proofs.joinings.join_once_more.Goals as goal

-- one that has never joined stands behind the others
pub returns-in_ok-join_first-in-None-clause-ok : goal.returns-in_ok-join_first-in-None-clause-ok
returns-in_ok-join_first-in-None-clause-ok c =
    ap presents c.in_ok-join_first-in-None.ensures.ok
    ∙ more_missed c.args.replica.now c.args.joinings.now.items
    (sym c.in-None.is ∙ c.place_of.ensures ∙ ap (position (λ x. bytes_eq x.present.replica c.args.replica.now)) c.deref.ensures.value)
