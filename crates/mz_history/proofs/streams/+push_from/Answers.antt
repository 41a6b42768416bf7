use Rattle.std.proofs.Common.{◌≡◌, add-one, ◌∙◌, arith, set, subst, get_or}
use Rattle.mz_history.specs.Kept.{mapped_from, told_line}
use Rattle.mz_history.proofs.Lists.{from_step}
use Rattle.mz_history.proofs.Pushing.{may_go, put_there, put_same, taken_out}
use Rattle.mz_history.proofs.streams.+push_from.Goals as goal

-- each from the place on
pub returns-in-Ok-push_from-clause-ok : goal.returns-in-Ok-push_from-clause-ok
returns-in-Ok-push_from-clause-ok t c =
    c.in-Ok-push_from.ensures.ok
    ∙ (λ i. mapped_from (add-one c.args.place i) (told_line c.args.line.now) (set c.args.streams.now.items c.args.place (c.in-Ok.ensures.ok i)))
    ∙ from_step c.args.place (told_line c.args.line.now) c.args.streams.now.items c.index_mut.result.now (omega arith) c.index_mut.ensures.value

-- where one finds no memory, it is as before
pub returns-in-Err-clause-err : goal.returns-in-Err-clause-err
returns-in-Err-clause-err t c =
    put_same c.args.place c.args.streams.now.items c.index_mut.result.now c.push_copy.new.stream (omega arith) c.index_mut.ensures.value c.in-Err.ensures.err

-- what it was told is its last line, and isn't marked
pub pop-requires : goal.pop-requires
pop-requires t c =
    may_go c.args.line.now c.index_mut.result.now c.index_mut-in-Err-push_from.result.now c.push_copy.ensures.within
    (put_there c.args.place c.args.streams.now.items c.push_copy.new.stream c.index_mut-in-Err-push_from.result.now (omega arith)
    (subst (λ ts. c.index_mut-in-Err-push_from.result.now ≡ get_or ts c.args.place c.index_mut-in-Err-push_from.result.now) c.in-Err-push_from.ensures.err c.index_mut-in-Err-push_from.ensures.value)
    ∙ c.in-Ok.ensures.ok)

-- and is taken back where a later one finds no memory
pub returns-in-Err-push_from-clause-err : goal.returns-in-Err-push_from-clause-err
returns-in-Err-push_from-clause-err t c =
    taken_out c.args.place c.args.line.now c.args.streams.now.items c.push_from.new.streams.items c.index_mut.result.now c.push_copy.new.stream
    c.index_mut-in-Err-push_from.result.now c.pop.new.self (omega arith) c.index_mut.ensures.value c.in-Ok.ensures.ok c.in-Err-push_from.ensures.err c.index_mut-in-Err-push_from.ensures.value
    c.pop.ensures
