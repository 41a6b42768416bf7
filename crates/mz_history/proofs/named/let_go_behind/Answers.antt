use Rattle.std.proofs.Common.{◌≡◌, ◌<◌, ap, ◌∙◌, arith, length, take}
use Rattle.mz_history.proofs.Lists.{take_but_last}
use Rattle.mz_history.proofs.named.let_go_behind.Goals as goal

-- the last goes, and those up to the mark stay
pub behind-preserved : goal.behind-preserved
behind-preserved c =
    let there : c.len.result ≡ length c.behind.lines.items = c.len.ensures ∙ c.behind.lines.ok.0 in
    let more : c.args.mark < length c.behind.lines.items = omega (arith, c.behind-test.true, there) in
    record {
      mark = omega (arith, more, c.let_go_last.ensures.len);
      same = ap (take c.args.mark) c.let_go_last.ensures.lines ∙ take_but_last c.args.mark c.behind.lines.items more ∙ c.behind.invariant.same;
      found = c.let_go_last.ensures.found;
    }
