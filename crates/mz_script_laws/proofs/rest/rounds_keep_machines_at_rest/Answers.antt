-- Each line of rounds keeps a machine at rest.
use Rattle.mz_script_laws.proofs.RoundLines.{begins_rests, commits_queued_rests, commits_rests, finishes_open_rests, finishes_rests}
use Rattle.mz_script_laws.proofs.rest.rounds_keep_machines_at_rest.Goals as goal

pub returns-clause-begins : goal.returns-clause-begins
returns-clause-begins c = begins_rests

pub returns-clause-finishes : goal.returns-clause-finishes
returns-clause-finishes c = finishes_rests

pub returns-clause-if_open : goal.returns-clause-if_open
returns-clause-if_open c = finishes_open_rests

pub returns-clause-commits : goal.returns-clause-commits
returns-clause-commits c = commits_rests

pub returns-clause-if_queued : goal.returns-clause-if_queued
returns-clause-if_queued c = commits_queued_rests
