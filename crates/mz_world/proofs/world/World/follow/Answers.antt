-- each line is carried out at rest
use Rattle.std.proofs.Common.{subst}
use Rattle.mz_script.specs.declared.script_line.ScriptLine.TheVariants.{Says, BeginRound, FinishRound, CommitRound}
use Rattle.mz_script.specs.Built.{IsHeard}
use Rattle.mz_world.proofs.Calling.{on_ok_then}
use Rattle.mz_script_laws.proofs.RoundLines.{begins_rests, commits_rests, finishes_rests}
use Rattle.mz_script_laws.proofs.SessionLines.{session_rests}
use Rattle.mz_world.proofs.Resting.{follows, rested}
use Rattle.mz_world.proofs.world.World.follow.Goals as goal

pub returns-in-Says-clause-carries : goal.returns-in-Says-clause-carries
returns-in-Says-clause-carries g c =
    on_ok_then _ _ c.says.result c.says.ensures.carries (λ carries machine stands.
    let asks = subst IsHeard c.in-Says.is c.requires.heard in
    follows machine c.args.line (Says c.in-Says.name c.in-Says.text c.in-Says.asked) c.in-Says.is
    (rested (carries c.in-Says.text asks machine stands.is_of)
    (session_rests machine c.in-Says.name c.in-Says.text c.in-Says.asked asks stands.rest)))

pub returns-in-BeginRound-clause-carries : goal.returns-in-BeginRound-clause-carries
returns-in-BeginRound-clause-carries g c = λ machine stands.
    follows machine c.args.line BeginRound c.in-BeginRound.is
    (rested (c.in_ok-begin-in-BeginRound.ensures.carries machine stands.is_of) (begins_rests machine stands.rest))

pub returns-in-FinishRound-clause-carries : goal.returns-in-FinishRound-clause-carries
returns-in-FinishRound-clause-carries g c =
    on_ok_then _ _ c.finish.result c.finish.ensures.carries (λ carries machine stands.
    follows machine c.args.line FinishRound c.in-FinishRound.is
    (rested (carries machine stands.is_of) (finishes_rests machine stands.rest)))

pub returns-in-CommitRound-clause-carries : goal.returns-in-CommitRound-clause-carries
returns-in-CommitRound-clause-carries g c =
    on_ok_then _ _ c.commit.result c.commit.ensures.carries (λ carries machine stands.
    follows machine c.args.line CommitRound c.in-CommitRound.is
    (rested (carries machine stands.is_of) (commits_rests machine stands.rest)))
