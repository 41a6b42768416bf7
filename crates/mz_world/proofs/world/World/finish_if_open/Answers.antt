-- the round that was open is applied, and told
use Rattle.std.proofs.Common.{◌∙◌, refl, subst}
use Rattle.mz_books.specs.Given.{Did}
use Rattle.mz_books.specs.Rounds.{open_round}
use Rattle.mz_core.specs.Told.{done_or_none, finishing_given}
use Rattle.mz_world.proofs.Calling.{on_ok_then}
use Rattle.mz_world.proofs.RoundLines.{finished_if_open}
use Rattle.mz_world.proofs.world.World.finish_if_open.Goals as goal

pub returns-in-Some-clause-carries : goal.returns-in-Some-clause-carries
returns-in-Some-clause-carries g c =
    on_ok_then _ _ c.write_round.result c.write_round.ensures (λ text machine is_of.
    finished_if_open c.args.self.now _ machine c.names.result.now.keys _ _ c.in-Some.done is_of (record { moment = refl; lines = refl })
    (λ log stands. c.names.ensures ∙ g.met.C.Core.named _ log stands)
    (subst (λ own. Did machine.log (finishing_given machine.log (open_round machine.log)) (done_or_none own) (g.C.Core.stands c.finish_round.new.self))
    c.in-Some.is (c.in_ok-done.ensures.given machine.log is_of.core)) text)
