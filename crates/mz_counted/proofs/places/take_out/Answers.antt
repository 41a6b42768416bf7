use Rattle.std.proofs.Common.{◌<◌, ◌∙◌, sym, ap, subst, arith}
use Rattle.std.specs.List.{remove}
use Rattle.mz_counted.specs.Counted.{count, removed, IsFalling}
use Rattle.mz_counted.proofs.Falling.{stands_behind, go_behind, still_go}
use Rattle.mz_counted.proofs.places.take_out.Goals as goal

-- the first such time stands behind those after it
pub remove-requires : goal.remove-requires
remove-requires c =
    let there = subst (λ us. 0 < count c.args.t us) (sym c.deref.ensures.value) c.requires.there in
    let falling = subst IsFalling (sym c.deref.ensures.value) c.requires.falling in
    omega (arith, stands_behind c.args.t c.after-place.result c.deref.result.now falling c.after-place.ensures.first there c.after-place.ensures.place, c.deref.ensures.len)

pub returns-clause-times : goal.returns-clause-times
returns-clause-times c =
    let there = subst (λ us. 0 < count c.args.t us) (sym c.deref.ensures.value) c.requires.there in
    let falling = subst IsFalling (sym c.deref.ensures.value) c.requires.falling in
    c.remove.ensures.items
    ∙ ap (λ us. remove us c.after-place.result) (sym c.deref.ensures.value)
    ∙ go_behind c.args.t c.after-place.result c.deref.result.now falling c.after-place.ensures.first c.after-place.ensures.rest there c.after-place.ensures.place
    ∙ ap (removed c.args.t) c.deref.ensures.value

pub returns-clause-falling : goal.returns-clause-falling
returns-clause-falling c = subst IsFalling (sym (returns-clause-times c)) (still_go c.args.t c.args.times.now.items c.requires.falling)
