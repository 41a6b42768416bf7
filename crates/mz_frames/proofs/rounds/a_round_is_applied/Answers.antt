-- Each clause is a lemma.
use Rattle.mz_replay_laws.proofs.Steady.{newest_after}
use Rattle.mz_frames.proofs.RoundEnds.{round_front, round_long, round_made, round_queue, round_replies, round_time, round_waits, round_waits_of}
use Rattle.mz_frames.proofs.RoundSeen.{round_seen}
use Rattle.mz_frames.proofs.rounds.a_round_is_applied.Goals as goal

pub returns-clause-replies : goal.returns-clause-replies
returns-clause-replies c = round_replies

pub returns-clause-time : goal.returns-clause-time
returns-clause-time c = round_time

pub returns-clause-state : goal.returns-clause-state
returns-clause-state c = newest_after

pub returns-clause-queued : goal.returns-clause-queued
returns-clause-queued c = round_queue

pub returns-clause-front : goal.returns-clause-front
returns-clause-front c = round_front

pub returns-clause-outstanding : goal.returns-clause-outstanding
returns-clause-outstanding c = round_waits

pub returns-clause-of_commands : goal.returns-clause-of_commands
returns-clause-of_commands c = round_waits_of

pub returns-clause-calls_made : goal.returns-clause-calls_made
returns-clause-calls_made c = round_made

pub returns-clause-all_calls : goal.returns-clause-all_calls
returns-clause-all_calls c = round_long

pub returns-clause-seen : goal.returns-clause-seen
returns-clause-seen c = round_seen
