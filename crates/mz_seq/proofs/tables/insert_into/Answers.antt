use Rattle.std.proofs.Common.{true≢false, refl, sym, ap, ◌∙◌, position}
use Rattle.mz_seq.proofs.CommandLemmas.{insert_told, err_before}
use Rattle.mz_seq.proofs.HadLemmas.{had_kept}
use Rattle.mz_seq.proofs.FoundLemmas.{around, is_at, none_there, then_kept}
use Rattle.mz_seq.proofs.tables.insert_into.Goals as goal

-- the table is there
pub unreachable-requires : goal.unreachable-requires
unreachable-requires c =
    let ts = c.args.tables.now.items in
    let lacks = none_there c.args.number ts (ap (position (is_at c.args.number)) (sym c.deref.ensures.value) ∙ sym c.place_of.ensures ∙ c.in-None.is) in
    true≢false (sym c.requires.there ∙ lacks)

-- what it is told of one table holds of all
pub returns-clause-told : goal.returns-clause-told
returns-clause-told c =
    let ts = c.args.tables.now.items in
    let at = ap (position (is_at c.args.number)) (sym c.deref.ensures.value) ∙ sym c.place_of.ensures ∙ c.in-Some.is in
    let t = c.index_mut.result.now in
    insert_told c.args.number ts c.in-Some.place t c.insert.new.table c.args.rows.now c.insert.result
    (around c.args.number ts c.in-Some.place t at c.index_mut.ensures.value c.requires.apart) c.insert.ensures.told

pub returns-clause-err : goal.returns-clause-err
returns-clause-err c =
    let ts = c.args.tables.now.items in
    let at = ap (position (is_at c.args.number)) (sym c.deref.ensures.value) ∙ sym c.place_of.ensures ∙ c.in-Some.is in
    let t = c.index_mut.result.now in
    err_before c.args.number ts c.in-Some.place t c.insert.new.table c.insert.result
    (around c.args.number ts c.in-Some.place t at c.index_mut.ensures.value c.requires.apart) c.insert.ensures.err

-- and the mark stays
pub returns-clause-marked : goal.returns-clause-marked
returns-clause-marked c =
    let ts = c.args.tables.now.items in
    let at = ap (position (is_at c.args.number)) (sym c.deref.ensures.value) ∙ sym c.place_of.ensures ∙ c.in-Some.is in
    let t = c.index_mut.result.now in
    then_kept c.args.number ts c.in-Some.place t (record t { rows = c.insert.new.table })
    (around c.args.number ts c.in-Some.place t at c.index_mut.ensures.value c.requires.apart) refl refl c.insert.ensures.marked

-- also where a table came since
pub returns-clause-had : goal.returns-clause-had
returns-clause-had c =
    let ts = c.args.tables.now.items in
    let at = ap (position (is_at c.args.number)) (sym c.deref.ensures.value) ∙ sym c.place_of.ensures ∙ c.in-Some.is in
    let t = c.index_mut.result.now in
    had_kept c.args.number ts c.in-Some.place t (record t { rows = c.insert.new.table })
    (around c.args.number ts c.in-Some.place t at c.index_mut.ensures.value c.requires.apart) refl refl c.insert.ensures.marked
