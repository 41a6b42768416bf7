-- With one byte more, all bytes are whole lines where it is LF, and no more are where it isn't.
use Rattle.std.proofs.Common.{arith}
use Rattle.std.proofs.lemmas.Bool.Decides.{nat_tests}
use Rattle.mz_shell.proofs.LineLemmas.{whole_more}
use Rattle.mz_shell.proofs.lines.whole_len.Goals as goal
use Rattle.mz_shell.proofs.lines.whole_len.Goals.{then-byte-eq10, else-byte-eq10}

pub loop-place-preserved : goal.loop-place-preserved
loop-place-preserved c =
    let more = whole_more c.args.bytes.now c.loop-place.place 0 c.loop-place-test.true in
    elim c.if-byte-eq10.branch [
      | then-byte-eq10 w ↦ record { value = grind (arith, nat_tests); within = omega arith }
      | else-byte-eq10 w ↦ record { value = grind (arith, nat_tests); within = omega arith }
    ]
