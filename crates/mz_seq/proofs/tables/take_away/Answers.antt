use Rattle.std.proofs.Common.{false, refl, sym, ap, ◌∙◌, position}
use Rattle.mz_seq.proofs.FoundLemmas.{around, is_at, now_gone, now_none, then_kept}
use Rattle.mz_seq.proofs.HadLemmas.{had_gone, had_none}
use Rattle.mz_seq.proofs.tables.take_away.Goals as goal

-- the table is there no more
pub returns-in-Some-clause-now : goal.returns-in-Some-clause-now
returns-in-Some-clause-now c =
    let ts = c.args.tables.now.items in
    let at = ap (position (is_at c.args.number)) (sym c.deref.ensures.value) ∙ sym c.place_of.ensures ∙ c.in-Some.is in
    let t = c.index_mut.result.now in
    now_gone c.args.number ts c.in-Some.place t (around c.args.number ts c.in-Some.place t at c.index_mut.ensures.value c.requires)

-- at the mark it stays
pub returns-in-Some-clause-then : goal.returns-in-Some-clause-then
returns-in-Some-clause-then c =
    let ts = c.args.tables.now.items in
    let at = ap (position (is_at c.args.number)) (sym c.deref.ensures.value) ∙ sym c.place_of.ensures ∙ c.in-Some.is in
    let t = c.index_mut.result.now in
    then_kept c.args.number ts c.in-Some.place t (record t { is = false })
    (around c.args.number ts c.in-Some.place t at c.index_mut.ensures.value c.requires) refl refl refl

-- where there is none, none goes
pub returns-in_default-clause-now : goal.returns-in_default-clause-now
returns-in_default-clause-now c =
    let ts = c.args.tables.now.items in
    now_none c.args.number ts (ap (position (is_at c.args.number)) (sym c.deref.ensures.value) ∙ sym c.place_of.ensures ∙ c.in_default.is)

-- what it had goes too
pub returns-in-Some-clause-had : goal.returns-in-Some-clause-had
returns-in-Some-clause-had c =
    let ts = c.args.tables.now.items in
    let at = ap (position (is_at c.args.number)) (sym c.deref.ensures.value) ∙ sym c.place_of.ensures ∙ c.in-Some.is in
    let t = c.index_mut.result.now in
    had_gone c.args.number ts c.in-Some.place t (around c.args.number ts c.in-Some.place t at c.index_mut.ensures.value c.requires)

pub returns-in_default-clause-had : goal.returns-in_default-clause-had
returns-in_default-clause-had c =
    let ts = c.args.tables.now.items in
    had_none c.args.number ts (ap (position (is_at c.args.number)) (sym c.deref.ensures.value) ∙ sym c.place_of.ensures ∙ c.in_default.is)
