-- The next bytes that the sink took are the front of what was still to be written.
use Rattle.std.proofs.Common.{arith}
use Rattle.std.proofs.lemmas.List.{length-drop, take_rest}
use Rattle.mz_io.proofs.FrontLemmas.{front_more}
use Rattle.mz_io.proofs.sink.write_all.Goals as goal

-- one more piece joins the front, and no call lowered the count
pub pieces-preserved : goal.pieces-preserved
pieces-preserved g c =
    let bound = c.in_ok-count.ensures.bound in
    let bytes = rw take_rest at c.in_ok-count.ensures.bytes in
    record {
      within = omega (arith, bound, length-drop c.pieces.done c.args.piece.now);
      front = front_more _ _ _ c.args.piece.now c.pieces.done c.in_ok-count.count c.pieces.invariant.front bytes;
      later = omega (arith, c.in_ok-count.ensures.cause.later);
    }
