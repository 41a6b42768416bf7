use Rattle.std.proofs.Common.{◌≡◌, ◌∷◌, length, map, refl, ap, rules, arith}
use Rattle.std.proofs.lemmas.List.{nil_from_length}
use Rattle.std.specs.Vec.Iter.{into_iter_items, into_iter_len}
use Rattle.mz_updates.specs.Contents.{HasSums}
use Rattle.mz_dataflow.proofs.Queueing.{queueing_first, queueing_last, queueing_now, queueing_push}
use Rattle.mz_dataflow.proofs.flowing.queued.Goals as goal

-- no list is in a queue yet
pub leaves-init : goal.leaves-init
leaves-init c =
    let all : into_iter_items c.into_iter-leaf-iterator.result ≡ c.args.offered.items = search rules in
    queueing_first c.args.offered.items (into_iter_items c.into_iter-leaf-iterator.result) _ (ap (map _) c.new-queues.ensures.items) all

-- the next one has sums
pub queue_of-queue-requires : goal.queue_of-queue-requires
queue_of-queue-requires c =
    let step : into_iter_items c.leaves.leaf-iterator ≡ (c.in-Some.leaf, c.in-Some.updates) ∷ into_iter_items c.next.new.self = search rules in
    queueing_now (λ q. HasSums q.1) c.args.offered.items (into_iter_items c.leaves.leaf-iterator) (into_iter_items c.next.new.self) _
    (c.in-Some.leaf, c.in-Some.updates) c.requires step c.leaves.invariant

-- and is put in one
pub leaves-preserved : goal.leaves-preserved
leaves-preserved c =
    let step : into_iter_items c.leaves.leaf-iterator ≡ (c.in-Some.leaf, c.in-Some.updates) ∷ into_iter_items c.next.new.self = search rules in
    rw c.in_ok-push.ensures.items
    (queueing_push _ c.args.offered.items (into_iter_items c.leaves.leaf-iterator) (into_iter_items c.next.new.self) c.leaves.queues.items
    (c.in-Some.leaf, c.in-Some.updates) (c.in-Some.leaf, c.queue_of-queue.result) step c.leaves.invariant refl c.queue_of-queue.ensures)

-- till none is left
pub returns : goal.returns
returns c =
    let left : into_iter_len c.leaves.leaf-iterator ≡ 0 = c.in-None.ensures.steps.0 in
    let length_left : length (into_iter_items c.leaves.leaf-iterator) ≡ 0 = search (rules, arith) in
    queueing_last c.args.offered.items (into_iter_items c.leaves.leaf-iterator) _ (nil_from_length (into_iter_items c.leaves.leaf-iterator) length_left) c.leaves.invariant
