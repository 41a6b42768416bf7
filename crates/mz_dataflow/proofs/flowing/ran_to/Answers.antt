use Rattle.std.proofs.Common.{List, sym, subst}
use Rattle.mz_updates.specs.declared.update.Update.{Update}
use Rattle.mz_updates.specs.Contents.{IsBefore, IsFrom}
use Rattle.mz_arrange.specs.Arranged.{IsInserted, TakesUpdates}
use Rattle.mz_dataflow.proofs.RanTo.{can_flow, offers_sums, out_sums, out_taken, plan_step, ready, stands_on}
use Rattle.mz_dataflow.proofs.flowing.ran_to.Goals as goal

-- each list that was offered has sums
pub queued-requires : goal.queued-requires
queued-requires c = offers_sums c.args.nodes.now.items c.args.output.now c.args.offered.items c.args.upper c.requires

-- the nodes can run over the queues
pub run_times-requires : goal.run_times-requires
run_times-requires c = can_flow c.args.nodes.now.items c.args.output.now c.args.offered.items _ c.args.upper c.requires c.in_ok-queues.ensures

-- what is put out has sums
pub consolidate-requires : goal.consolidate-requires
consolidate-requires c = out_sums c.args.nodes.now.items c.run_times.new.nodes.items c.args.output.now c.args.offered.items _ c.args.upper c.in_ok-out.out c.requires
    (c.in_ok-out.ensures c.args.output.now.upper c.args.upper (ready c.args.nodes.now.items c.args.output.now c.args.offered.items _ c.args.upper c.requires c.in_ok-queues.ensures))
    c.in_ok-queues.ensures

-- it lies between the times, and the output takes it
pub insert-requires-clause-from : goal.insert-requires-clause-from
insert-requires-clause-from c =
    let flown = c.in_ok-out.ensures c.args.output.now.upper c.args.upper
    (ready c.args.nodes.now.items c.args.output.now c.args.offered.items _ c.args.upper c.requires c.in_ok-queues.ensures) in
    subst (IsFrom c.args.output.now.upper) (sym c.in_ok-copy.ensures) (c.consolidate.ensures.from c.args.output.now.upper flown.from)

pub insert-requires-clause-before : goal.insert-requires-clause-before
insert-requires-clause-before c =
    let flown = c.in_ok-out.ensures c.args.output.now.upper c.args.upper
    (ready c.args.nodes.now.items c.args.output.now c.args.offered.items _ c.args.upper c.requires c.in_ok-queues.ensures) in
    subst (IsBefore c.args.upper) (sym c.in_ok-copy.ensures) (c.consolidate.ensures.before c.args.upper flown.until)

pub insert-requires-clause-later : goal.insert-requires-clause-later
insert-requires-clause-later c = c.requires.later

pub insert-requires-clause-fits : goal.insert-requires-clause-fits
insert-requires-clause-fits c =
    let flown = c.in_ok-out.ensures c.args.output.now.upper c.args.upper
    (ready c.args.nodes.now.items c.args.output.now c.args.offered.items _ c.args.upper c.requires c.in_ok-queues.ensures) in
    subst (λ (us : List Update). TakesUpdates us c.args.output.now) (sym c.in_ok-copy.ensures)
    (out_taken c.args.nodes.now.items c.run_times.new.nodes.items c.args.output.now c.args.offered.items _ c.args.upper c.in_ok-out.out c.consolidate.new.self
    c.requires flown c.in_ok-queues.ensures c.consolidate.ensures.contents (c.consolidate.ensures.from c.args.output.now.upper flown.from)
    c.since-since.ensures.stored)

-- so nodes and output stand for the longer lists
pub returns-clause-stands : goal.returns-clause-stands
returns-clause-stands c = λ plan us s.
    let flown = c.in_ok-out.ensures c.args.output.now.upper c.args.upper
    (ready c.args.nodes.now.items c.args.output.now c.args.offered.items _ c.args.upper c.requires c.in_ok-queues.ensures) in
    stands_on plan c.args.nodes.now.items c.run_times.new.nodes.items c.args.output.now c.insert.new.self c.args.offered.items _ c.args.upper c.in_ok-out.out
    c.consolidate.new.self us flown c.in_ok-queues.ensures c.requires.before c.consolidate.ensures.contents
    (subst (λ (us : List Update). IsInserted us c.args.upper c.args.output.now c.insert.new.self) c.in_ok-copy.ensures c.in_ok-insert.ensures.ok) s

pub returns-clause-gives : goal.returns-clause-gives
returns-clause-gives c = λ plan us s t.
    let flown = c.in_ok-out.ensures c.args.output.now.upper c.args.upper
    (ready c.args.nodes.now.items c.args.output.now c.args.offered.items _ c.args.upper c.requires c.in_ok-queues.ensures) in
    (plan_step plan c.args.nodes.now.items c.run_times.new.nodes.items c.args.output.now.upper c.args.upper c.args.offered.items _ c.in_ok-out.out
    c.consolidate.new.self s.puts flown c.in_ok-queues.ensures c.requires.before c.consolidate.ensures.contents).gives us s.leaves t

pub returns-clause-output : goal.returns-clause-output
returns-clause-output c =
    subst (λ (us : List Update). IsInserted us c.args.upper c.args.output.now c.insert.new.self) c.in_ok-copy.ensures c.in_ok-insert.ensures.ok

pub returns-clause-from : goal.returns-clause-from
returns-clause-from c =
    let flown = c.in_ok-out.ensures c.args.output.now.upper c.args.upper
    (ready c.args.nodes.now.items c.args.output.now c.args.offered.items _ c.args.upper c.requires c.in_ok-queues.ensures) in
    c.consolidate.ensures.from c.args.output.now.upper flown.from

pub returns-clause-before : goal.returns-clause-before
returns-clause-before c =
    let flown = c.in_ok-out.ensures c.args.output.now.upper c.args.upper
    (ready c.args.nodes.now.items c.args.output.now c.args.offered.items _ c.args.upper c.requires c.in_ok-queues.ensures) in
    c.consolidate.ensures.before c.args.upper flown.until
