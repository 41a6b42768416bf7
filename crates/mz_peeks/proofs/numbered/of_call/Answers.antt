use Rattle.std.proofs.Common.{◌∙◌, rules, tests}
use Rattle.std.proofs.lemmas.Iterator.{YieldsList-from_slice}
use Rattle.std.proofs.lemmas.Iterator.Search.{find_from_yields_List}
use Rattle.mz_books.specs.Holds.{is_of_call}
use Rattle.mz_peeks.proofs.numbered.of_call.Goals as goal

-- the closure gives whether a peek answers the call
pub returns : goal.returns
returns c =
    c.copied.ensures
    ∙ find_from_yields_List (is_of_call c.args.session c.args.call) _ _ c.find.result c.find.ensures.ran
    (YieldsList-from_slice c.args.pending.now cc) (λ x b q k. search (rules, tests))
