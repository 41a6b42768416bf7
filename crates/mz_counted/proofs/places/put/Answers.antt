use Rattle.std.proofs.Common.{◌≡◌, ◌∙◌, sym, subst}
use Rattle.std.specs.List.{insert}
use Rattle.mz_counted.specs.Counted.{IsFalling}
use Rattle.mz_counted.proofs.Falling.{come_behind, still_come}
use Rattle.mz_counted.proofs.places.put.Goals as goal

-- the time stands behind those after it
pub returns-clause-times : goal.returns-clause-times
returns-clause-times c =
    let put : c.insert.new.self.items ≡ insert c.args.times.now.items c.after-place.result c.args.t = rw c.unwrap.ensures at c.insert.ensures.items in
    put ∙ rw (sym c.deref.ensures.value) (come_behind c.args.t c.after-place.result c.deref.result.now c.after-place.ensures.first c.after-place.ensures.rest c.after-place.ensures.place)

pub returns-clause-falling : goal.returns-clause-falling
returns-clause-falling c = subst IsFalling (sym (returns-clause-times c)) (still_come c.args.t c.args.times.now.items c.requires.falling)
