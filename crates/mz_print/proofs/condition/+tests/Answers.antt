use Rattle.std.proofs.Common.{◌∙◌, ap}
use Rattle.std.proofs.lemmas.Result.{on_ok_weaker}
use Rattle.mz_print.specs.Writer.{written}
use Rattle.mz_print.proofs.PrintRules.{print_of_negated}
use Rattle.mz_print.proofs.condition.+tests.Goals as goal

-- NOT stands before the test in its parentheses
pub print_test-returns-in_ok-key-in-Not : goal.print_test-returns-in_ok-key-in-Not
print_test-returns-in_ok-key-in-Not t c =
    on_ok_weaker c.print_closed.result
    (λ adds rest. adds rest ∙ c.in_ok-key-in-Not.ensures _
    ∙ ap (written c.args.out.now) (print_of_negated _ _ _ _ rest c.in-Not.is c.get-test.ensures c.is_list.ensures))
    c.print_closed.ensures
