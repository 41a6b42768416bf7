use Rattle.std.proofs.Common.{◌≡◌, ◌≤◌, ◌++◌, ◌∷◌, [], rules, SFits, ap, subst, ◌∙◌, sym, arith}
use Rattle.std.specs.FinMap.{entries, len, len-entries}
use Rattle.std.specs.Int.{w128}
use Rattle.std.proofs.lemmas.Int.{ints, to_z-of_z}
use Rattle.mz_reduce.specs.Totals.{told}
use Rattle.mz_reduce.proofs.RegroupLaws.{shown_none, shown_some}
use Rattle.mz_reduce.proofs.showing.push_group.Goals as goal

-- a group with a row is shown
pub returns-in_ok-push-clause-shown : goal.returns-in_ok-push-clause-shown
returns-in_ok-push-clause-shown c =
    let fits : SFits w128 c.args.weight = search (rules, ints) in
    let pushed = rw to_z-of_z at c.in_ok-push.ensures.items in
    let some : 1 ≤ len c.args.bag.now = omega (arith, c.len-count.ensures.count) in
    pushed
    ∙ ap (λ row. c.args.out.now.items ++ (row, c.args.weight) ∷ []) (c.in_ok-row.ensures.tells c.args.bag.now c.len-count.ensures.stored.no_zero c.requires)
    ∙ ap (λ ws. c.args.out.now.items ++ ws)
    (sym (shown_some (told c.args.totals.now) c.args.key.now c.args.weight (entries c.args.bag.now)
    (subst (λ n. 1 ≤ n) (len-entries c.args.bag.now) some)))

-- and one without is not
pub returns-else-there-clause-shown : goal.returns-else-there-clause-shown
returns-else-there-clause-shown c =
    let none : len c.args.bag.now ≡ 0 = omega (arith, c.len-count.ensures.count) in
    shown_none (told c.args.totals.now) c.args.key.now c.args.weight (entries c.args.bag.now) c.args.out.now.items
    (sym (len-entries c.args.bag.now) ∙ none)
