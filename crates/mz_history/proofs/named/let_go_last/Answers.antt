use Rattle.std.proofs.Common.{ap, sym, subst, ◌∙◌, ◌++◌, ◌∷◌, [], length}
use Rattle.mz_history.specs.Kept.{but_last, AreFound}
use Rattle.mz_history.proofs.Lists.{but_last_push, length_but_last}
use Rattle.mz_history.proofs.named.let_go_last.Goals as goal

pub unname-requires : goal.unname-requires
unname-requires c =
    subst (λ xs. AreFound c.args.told.now (xs ++ c.in-Some.line ∷ [])) (sym c.deref.ensures.value)
    (subst (AreFound c.args.told.now) c.in-Some.ensures.items c.requires)

pub returns-in-Some-clause-lines : goal.returns-in-Some-clause-lines
returns-in-Some-clause-lines c = but_last_push c.pop.new.self.items c.in-Some.line ∙ ap but_last (sym c.in-Some.ensures.items)

pub returns-in-Some-clause-len : goal.returns-in-Some-clause-len
returns-in-Some-clause-len c = ap length (returns-in-Some-clause-lines c) ∙ length_but_last c.args.lines.now.items

pub returns-in-Some-clause-found : goal.returns-in-Some-clause-found
returns-in-Some-clause-found c = subst (AreFound c.unname.new.told) c.deref.ensures.value c.unname.ensures
