-- A failed read leaves what was read; the end answers what waits; another piece is answered as far as it is within the limit.
use Rattle.std.proofs.Common.{◌≤◌, length, arith}
use Rattle.mz_shell.proofs.StreamLemmas.{going_cut, going_end, so_far}
use Rattle.mz_shell.proofs.NextLemmas.{going_end_part, next_on, next_part, next_long, next_long_part, stops_part}
use Rattle.mz_shell.proofs.script.Script.next_piece.Goals as goal

pub returns-in-Err-clause-next : goal.returns-in-Err-clause-next
returns-in-Err-clause-next g c = λ left written going.
    (going_cut left _ _ written _ _ _ _ _ going c.in-Err.ensures.bytes, c.in-Err.ensures.cause.failed)

pub returns-in-Ok-answer-clause-next : goal.returns-in-Ok-answer-clause-next
returns-in-Ok-answer-clause-next g c = λ left written going.
    let nothing = rw c.if-got-eq0.true at c.in-Ok.ensures.bytes.0 in
    let at_end = c.in-Ok.ensures.bytes.1 c.if-got-eq0.true (omega arith) in
    going_end left _ _ written _ _ _ _ _ _ _ going nothing at_end
    (c.in-Ok-answer.ensures.did (so_far going.read) going.stands) (g.met.C.Carrier.legal c.answer.new.self.carrier)

pub returns-in-Err-answer-clause-next : goal.returns-in-Err-answer-clause-next
returns-in-Err-answer-clause-next g c = λ left written going.
    let nothing = rw c.if-got-eq0.true at c.in-Ok.ensures.bytes.0 in
    let at_end = c.in-Ok.ensures.bytes.1 c.if-got-eq0.true (omega arith) in
    stops_part left _ written _ _ _ _ _ c.in-Err-answer.stop c.in-Err-answer.ensures.cause
    (going_end_part left _ _ written _ _ _ _ _ _ going nothing at_end (c.in-Err-answer.ensures.front (so_far going.read) going.stands))

pub returns-in-Ok-take-clause-next : goal.returns-in-Ok-take-clause-next
returns-in-Ok-take-clause-next g c = λ left written going.
    let within : c.in-Ok.got ≤ length c.read.new.into = omega (arith, c.in-Ok.ensures.bound) in
    next_long left _ _ written _ _ _ _ _ _ c.read.new.into c.args.count c.in-Ok.got going c.in-Ok.ensures.bytes.0 within (omega arith)
    (c.in-Ok-take.ensures.did (so_far going.read) going.stands)

pub returns-in-Err-take-clause-next : goal.returns-in-Err-take-clause-next
returns-in-Err-take-clause-next g c = λ left written going.
    let within : c.in-Ok.got ≤ length c.read.new.into = omega (arith, c.in-Ok.ensures.bound) in
    stops_part left _ written _ _ _ _ _ c.in-Err-take.stop c.in-Err-take.ensures.cause
    (next_long_part left _ _ written _ _ _ _ _ c.read.new.into c.args.count c.in-Ok.got going c.in-Ok.ensures.bytes.0 within (omega arith)
    (c.in-Err-take.ensures.front (so_far going.read) going.stands))

pub returns-in-Ok-take-2-clause-next : goal.returns-in-Ok-take-2-clause-next
returns-in-Ok-take-2-clause-next g c = λ left written going.
    let within : c.in-Ok.got ≤ length c.read.new.into = omega (arith, c.in-Ok.ensures.bound) in (
      next_on left _ _ written _ _ _ _ _ _ _ _ c.read.new.into c.args.count c.in-Ok.got going c.in-Ok.ensures.bytes.0 within (omega arith)
          (c.in-Ok-take-2.ensures.did (so_far going.read) going.stands) c.in-Ok-take-2.ensures.waiting c.in-Ok-take-2.ensures.few,
      omega arith,
    )

pub returns-in-Err-take-2-clause-next : goal.returns-in-Err-take-2-clause-next
returns-in-Err-take-2-clause-next g c = λ left written going.
    let within : c.in-Ok.got ≤ length c.read.new.into = omega (arith, c.in-Ok.ensures.bound) in
    stops_part left _ written _ _ _ _ _ c.in-Err-take-2.stop c.in-Err-take-2.ensures.cause
    (next_part left _ _ written _ _ _ _ _ c.read.new.into c.args.count c.in-Ok.got going c.in-Ok.ensures.bytes.0 within (omega arith)
    (c.in-Err-take-2.ensures.front (so_far going.read) going.stands))
