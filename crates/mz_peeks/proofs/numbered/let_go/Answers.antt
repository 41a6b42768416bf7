use Rattle.std.proofs.Common.{◌≡◌, None, find, rules, sym, ◌∙◌}
use Rattle.mz_books.specs.Holds.{is_peek}
use Rattle.mz_peeks.specs.Kept.{StandsAt}
use Rattle.mz_peeks.proofs.Found.{goes, read_at}
use Rattle.mz_peeks.proofs.Left.{all_left}
use Rattle.mz_peeks.proofs.numbered.let_go.Goals as goal

-- where none is found, all are left
pub returns-in_err-place-clause-left : goal.returns-in_err-place-clause-left
returns-in_err-place-clause-left c =
    let none : find (is_peek c.args.peek) c.args.pending.now.items ≡ None = search rules in
    sym (all_left (is_peek c.args.peek) c.args.pending.now.items none)

-- the one that stands there goes
pub returns-clause-told : goal.returns-clause-told
returns-clause-told c =
    let at : StandsAt c.args.peek c.args.pending.now.items c.in_ok-place.place = search rules in
    sym (read_at c.in_ok-place.place c.args.pending.now.items c.remove.result at.within c.remove.ensures.value) ∙ at.found

-- and no other has its number
pub returns-clause-left : goal.returns-clause-left
returns-clause-left c =
    let at : StandsAt c.args.peek c.args.pending.now.items c.in_ok-place.place = search rules in
    c.remove.ensures.items ∙ goes c.args.peek c.in_ok-place.place c.args.pending.now.items c.requires at.within at.number
