use Rattle.std.proofs.Common.{pos, unwrap_or, rules, sym, ap, ◌∙◌, SFits}
use Rattle.std.specs.Int.{w128}
use Rattle.std.proofs.lemmas.Int.{ints, to_z-of_z}
use Rattle.mz_arrange.proofs.OrderedLaws.{count-get}
use Rattle.mz_arrange.proofs.ordered.count_of.Goals as goal

-- what the look-up gives, or 0, is the row's count
pub returns : goal.returns
returns c =
    let fits : SFits w128 c.unwrap_or.result = search (rules, ints) in
    rw to_z-of_z (c.unwrap_or.ensures ∙ ap (λ o. unwrap_or o (pos 0)) (c.copied.ensures ∙ c.get.ensures.value) ∙ sym (count-get c.args.row.now c.args.rows.now c.len-len.ensures.ordered))
