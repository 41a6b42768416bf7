-- a round that was begun is applied, and nothing is behind one that wasn't
use Rattle.std.proofs.Common.{◌∙◌, sym}
use Rattle.mz_script.specs.Script.{begins}
use Rattle.mz_world.proofs.Calling.{on_ok_then}
use Rattle.mz_world.proofs.RoundLines.{both_carried, one_carried}
use Rattle.mz_world.proofs.world.World.commit.Goals as goal

pub returns-then-not-branch-clause-carries : goal.returns-then-not-branch-clause-carries
returns-then-not-branch-clause-carries g c = λ machine is_of.
    one_carried machine (sym (c.in_ok-begin.ensures.begun machine is_of) ∙ c.if-not-branch.true) (c.in_ok-begin.ensures.carries machine is_of)

pub returns-clause-carries : goal.returns-clause-carries
returns-clause-carries g c =
    on_ok_then _ _ c.finish_if_open.result c.finish_if_open.ensures.carries (λ next machine is_of.
    let one = c.in_ok-begin.ensures.carries machine is_of in
    both_carried _ machine (sym (c.in_ok-begin.ensures.begun machine is_of) ∙ c.if-not-branch.false) one (next (begins machine).machine one.stands))
