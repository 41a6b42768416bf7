use Rattle.std.proofs.Common.{ap, ◌∙◌, arith}
use Rattle.mz_history.specs.Lines.{after_lines}
use Rattle.mz_history.proofs.Lists.{none_left}
use Rattle.mz_history.proofs.Naming.{named_all}
use Rattle.mz_history.proofs.named.named_in.Goals as goal

-- at the end none is left
pub returns : goal.returns
returns c =
    ap (λ rest. after_lines rest c.args.collection c.lines.told) (none_left c.lines.line-index c.args.lines.now (omega (arith, c.lines-test.false)))
    ∙ c.lines.invariant ∙ named_all c.args.collection c.args.lines.now
