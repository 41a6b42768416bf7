use Rattle.std.proofs.Common.{sym, ◌∙◌}
use Rattle.mz_dataflow.proofs.Underway.{no_time, taken_some, way_can, way_first, way_last, way_next, way_once}
use Rattle.mz_dataflow.proofs.flowing.run_times.Goals as goal

-- nothing was run yet
pub times-init : goal.times-init
times-init c = λ lower upper r. way_first lower upper c.args.nodes.now.items _ c.empty-out.result c.empty-out.ensures r

-- each run takes an update
pub times-smaller : goal.times-smaller
times-smaller c =
    let next = rw c.deref.ensures.value at c.next_time.ensures in
    taken_some c.in-Some.time _ c.in_ok-changes.changes.items _ (sym next ∙ c.in-Some.is) c.in_ok-changes.ensures

-- the next one is within the bound
pub run-requires-clause-once : goal.run-requires-clause-once
run-requires-clause-once c =
    rw c.deref-in-Some.ensures.value (way_once c.requires.lower c.requires.upper c.args.nodes.now.items c.times.nodes.items _ _ _ c.times.out c.in-Some.time
    c.in_ok-changes.changes.items (c.times.invariant c.requires.lower c.requires.upper c.requires.ready) c.in_ok-changes.ensures)

pub run-requires-clause-can : goal.run-requires-clause-can
run-requires-clause-can c =
    let next = rw c.deref.ensures.value at c.next_time.ensures in
    rw c.deref-in-Some.ensures.value (way_can c.requires.lower c.requires.upper c.args.nodes.now.items c.times.nodes.items _ _ _ c.times.out c.in-Some.time
    c.in_ok-changes.changes.items (c.times.invariant c.requires.lower c.requires.upper c.requires.ready) (sym next ∙ c.in-Some.is) c.in_ok-changes.ensures)

-- and made
pub times-preserved : goal.times-preserved
times-preserved c = λ lower upper r.
    let next = rw c.deref.ensures.value at c.next_time.ensures in
    let run = rw c.deref-in-Some.ensures.value at c.in_ok-rows.ensures in
    rw c.in_ok-append.ensures.ok (way_next lower upper c.args.nodes.now.items c.times.nodes.items c.run.new.nodes.items _ _ _ c.times.out c.in-Some.time
    c.in_ok-changes.changes.items c.in_ok-rows.rows (c.times.invariant lower upper r) (sym next ∙ c.in-Some.is) c.in_ok-changes.ensures run)

-- till nothing is left
pub returns : goal.returns
returns c = λ lower upper r.
    let next = rw c.deref.ensures.value at c.next_time.ensures in
    way_last lower upper c.args.nodes.now.items c.times.nodes.items _ _ c.times.out (c.times.invariant lower upper r) (sym next ∙ no_time c.next_time.result c.in_default.not-Some)
