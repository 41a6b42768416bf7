-- Each piece goes on from what was read before it.
use Rattle.std.proofs.Common.{arith}
use Rattle.mz_shell.proofs.StreamLemmas.{going_fresh, going_few, going_kept, so_far}
use Rattle.mz_shell.proofs.NextLemmas.{stops_earlier}
use Rattle.mz_shell.proofs.script.Script.read_all.Goals as goal

pub pieces-init : goal.pieces-init
pieces-init g c = record {
  going = going_fresh _ _ _ _ c.args.self.now.waiting.items c.requires.stands c.requires.lines c.requires.waiting;
  source_later = omega arith;
  sink_later = omega arith;
}

pub next_piece-requires-clause-machine : goal.next_piece-requires-clause-machine
next_piece-requires-clause-machine g c =
    let going = c.pieces.invariant.going in
    record { machine = so_far going.read; stands = going.stands }

pub next_piece-requires-clause-waiting : goal.next_piece-requires-clause-waiting
next_piece-requires-clause-waiting g c = going_kept _ _ _ _ _ _ c.pieces.self.waiting.items c.pieces.count c.pieces.invariant.going

pub next_piece-requires-clause-few : goal.next_piece-requires-clause-few
next_piece-requires-clause-few g c = going_few _ _ _ _ _ _ c.pieces.self.waiting.items c.pieces.count c.pieces.invariant.going

pub pieces-smaller : goal.pieces-smaller
pieces-smaller g c =
    let next = rw c.in-Ok-Some.field-0-is at (c.in-Ok-Some.ensures.next _ _ c.pieces.invariant.going) in
    let within = next.0.within in
    let more = next.1 in
    omega arith

pub returns-in-Ok-None-clause-finished : goal.returns-in-Ok-None-clause-finished
returns-in-Ok-None-clause-finished g c = rw c.in-Ok-None.field-0-is at (c.in-Ok-None.ensures.next _ _ c.pieces.invariant.going)

pub returns-in-Err-clause-stopped : goal.returns-in-Err-clause-stopped
returns-in-Err-clause-stopped g c =
    stops_earlier _ _ _ _ _ _ _ _ _ _ c.in-Err.stop c.pieces.invariant.source_later c.pieces.invariant.sink_later (c.in-Err.ensures.next _ _ c.pieces.invariant.going)
