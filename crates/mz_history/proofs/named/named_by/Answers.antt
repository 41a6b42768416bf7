use Rattle.std.proofs.Common.{add-one, ap, drop, ◌∙◌, arith, nat_cmp}
use Rattle.std.specs.BTreeMap.{get}
use Rattle.mz_history.specs.Lines.{after_lines}
use Rattle.mz_history.proofs.Lists.{none_left}
use Rattle.mz_history.proofs.Naming.{named_all, named_step}
use Rattle.mz_history.proofs.named.named_by.Goals as goal

-- one more is named
pub lines-preserved : goal.lines-preserved
lines-preserved c = record {
  each = λ n. ap (λ k. after_lines (drop k c.args.lines.now) n (get nat_cmp c.name_line.new.told n)) (add-one c.lines.line-index)
      ∙ named_step n c.args.lines.now c.lines.line-index c.line-item.result _ _ (omega arith) c.line-item.is (c.in_ok-name_line.ensures.ok n)
      ∙ c.lines.invariant.each n;
}

-- at the end none is left
pub returns : goal.returns
returns c = record {
  each = λ n. ap (λ rest. after_lines rest n (get nat_cmp c.lines.told n)) (none_left c.lines.line-index c.args.lines.now (omega (arith, c.lines-test.false)))
      ∙ c.lines.invariant.each n ∙ named_all n c.args.lines.now;
}
