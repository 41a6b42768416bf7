use Rattle.std.proofs.Common.{◌≡◌, length, ap, ◌∙◌, arith}
use Rattle.mz_dataflow.specs.Queues.{place_of}
use Rattle.mz_dataflow.proofs.OfferLaws.{listed_more, listed_new, offer_if, offer_new, place_most}
use Rattle.mz_dataflow.proofs.offers.add_offer.Goals as goal

-- the leaf's list has the updates behind it
pub returns-then-place-len-clause-ok : goal.returns-then-place-len-clause-ok
returns-then-place-len-clause-ok c = offer_if c.push_all-pushed.result c.args.leaf c.args.updates c.args.offered.now.items c.place_of-place.result
    c.index_mut.result.now c.push_all-pushed.new.updates (c.place_of-place.ensures ∙ ap (place_of c.args.leaf) c.deref.ensures.value) (omega arith) c.index_mut.ensures.value c.push_all-pushed.ensures.ok

-- no leaf has two
pub returns-then-place-len-clause-once : goal.returns-then-place-len-clause-once
returns-then-place-len-clause-once c = λ once. listed_more c.args.offered.now.items c.place_of-place.result c.index_mut.result.now
    c.push_all-pushed.new.updates (omega arith) c.index_mut.ensures.value once

-- or it is a new one
pub returns-clause-ok : goal.returns-clause-ok
returns-clause-ok c =
    let at : place_of c.args.leaf c.args.offered.now.items ≡ length c.args.offered.now.items =
    omega (arith, place_most c.args.leaf c.args.offered.now.items, c.place_of-place.ensures ∙ ap (place_of c.args.leaf) c.deref.ensures.value) in
    rw c.in_ok-push.ensures.items (offer_new c.args.leaf c.args.updates c.args.offered.now.items at)

pub returns-clause-once : goal.returns-clause-once
returns-clause-once c = λ once.
    let at : place_of c.args.leaf c.args.offered.now.items ≡ length c.args.offered.now.items =
    omega (arith, place_most c.args.leaf c.args.offered.now.items, c.place_of-place.ensures ∙ ap (place_of c.args.leaf) c.deref.ensures.value) in
    rw c.in_ok-push.ensures.items (listed_new c.args.leaf c.args.updates c.args.offered.now.items at once)
