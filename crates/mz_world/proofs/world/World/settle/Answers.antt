-- the lines of a settling one after another, each at rest
use Rattle.mz_script.specs.LineEvents.{commits_if_queued, turns_all}
use Rattle.mz_script.specs.Script.{finishes_if_open}
use Rattle.mz_script.specs.ScriptLine.{and_then}
use Rattle.mz_world.proofs.Calling.{on_ok_then}
use Rattle.mz_world.proofs.Carrying.{carried_both}
use Rattle.mz_world.proofs.Resting.{both_rested}
use Rattle.mz_world.proofs.world.World.settle.Goals as goal

pub turn-requires : goal.turn-requires
turn-requires g c =
    let two = both_rested c.in_ok-finish_if_open.ensures.carries c.in_ok-commit_if_queued.ensures.carries c.requires.machine c.requires.stands in
    record { machine = (and_then (finishes_if_open c.requires.machine) commits_if_queued).machine; stands = two.stands }

pub turn-requires-2 : goal.turn-requires-2
turn-requires-2 g c =
    let two = both_rested c.in_ok-finish_if_open.ensures.carries c.in_ok-commit_if_queued.ensures.carries c.requires.machine c.requires.stands in
    let three = c.in_ok-turn.ensures.carries _ two.stands in
    record { machine = _; stands = three.stands }

pub returns-clause-carries : goal.returns-clause-carries
returns-clause-carries g c =
    on_ok_then _ _ c.turn-2.result c.turn-2.ensures.carries (λ last machine stands.
    let two = both_rested c.in_ok-finish_if_open.ensures.carries c.in_ok-commit_if_queued.ensures.carries machine stands in
    let three = carried_both (and_then (finishes_if_open machine) commits_if_queued) turns_all two (c.in_ok-turn.ensures.carries _ two.stands) in
    carried_both (and_then (and_then (finishes_if_open machine) commits_if_queued) turns_all) turns_all three (last _ three.stands))
