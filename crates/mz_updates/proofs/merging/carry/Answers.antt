use Rattle.std.proofs.Common.{◌≡◌, ◌+ℤ◌, ℤ, SFits, sym, ◌∙◌, ap, rules, arith}
use Rattle.std.specs.Int.{w128, int_wrap}
use Rattle.std.proofs.lemmas.Int.{ints, to_z-of_z}
use Rattle.mz_updates.specs.declared.update.Update.{Update}
use Rattle.mz_updates.specs.Carrying.{emptied}
use Rattle.mz_updates.proofs.Carries.{read_twice, carried_both, carried_none}
use Rattle.mz_updates.proofs.merging.carry.Goals as goal

-- the diff of the first is with that of the second
pub returns-then-are_twins : goal.returns-then-are_twins
returns-then-are_twins c =
    let same : c.index_mut.result.now ≡ c.index.result.now =
    read_twice c.args.updates.now.items c.args.place c.index_mut.result.now c.index.result.now (omega arith) c.index_mut.ensures.value c.index.ensures in
    let second = c.index_mut-then-are_twins.result.now in
    let ranged : SFits w128 c.emptied_diff-diff.result = search (rules, ints) in
    let added : c.add_diff.new.update ≡ record { row = second.row; time = second.time; diff = int_wrap w128 (second.diff +ℤ c.emptied_diff-diff.result) } = rw to_z-of_z at c.add_diff.ensures in
    carried_both c.args.updates.now.items c.args.place c.index.result.now c.index-2.result.now second
    c.emptied_diff-diff.new.update c.add_diff.new.update c.requires c.index.ensures c.index-2.ensures (sym c.are_twins.ensures ∙ c.if-are_twins.true)
    (c.emptied_diff-diff.ensures.emptied ∙ ap emptied same) c.index_mut-then-are_twins.ensures.value
    (added ∙ ap (λ (z : ℤ). record { row = second.row; time = second.time; diff = int_wrap w128 (second.diff +ℤ z) }) (c.emptied_diff-diff.ensures.diff ∙ ap (λ (u : Update). u.diff) same))

-- and else both stay
pub returns-else-are_twins : goal.returns-else-are_twins
returns-else-are_twins c =
    carried_none c.args.updates.now.items c.args.place c.index.result.now c.index-2.result.now c.requires c.index.ensures c.index-2.ensures (sym c.are_twins.ensures ∙ c.if-are_twins.false)
