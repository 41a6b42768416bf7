-- Each line goes on from what was done before it.
use Rattle.std.proofs.Common.{arith}
use Rattle.mz_shell.proofs.ReadingLemmas.{carrying_next, done_next}
use Rattle.mz_shell.proofs.script.answer_lines.Goals as goal

pub lines-preserved : goal.lines-preserved
lines-preserved g c = record {
  some = carrying_next _ _ _ _ _ c.lines.invariant.some c.in_ok-line.ensures.did;
  few = omega (arith, c.lines.invariant.few, c.first_line.ensures.shorter, c.in_ok-line.ensures.counted);
  done = λ machine stands.
      done_next _ _ _ _ _ machine _ _ c.first_line.result.0.now _ _ (c.lines.invariant.done machine stands) c.first_line.ensures.lines
      c.in_ok-says.ensures.says c.in_ok-line.ensures.did;
}
