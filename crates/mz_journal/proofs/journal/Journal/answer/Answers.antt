-- A reply leaves the places, and makes the journal the one with the answer.
use Rattle.mz_journal.proofs.SlotLemmas.{places_replied}
use Rattle.mz_journal.proofs.ReplyLemmas.{answered_state, length-replied_at}
use Rattle.mz_journal.proofs.journal.Journal.answer.Goals as goal

-- the calls are as many and of the same sessions
pub invariant_of-self : goal.invariant_of-self
invariant_of-self c =
    let calls = c.self.inside.calls.items in (
      rw (c.answer_at.ensures.calls, length-replied_at c.place_of-place.result c.args.time c.args.reply calls) c.self.invariant.0,
      λ room. rw (c.answer_at.ensures.len, c.answer_at.ensures.capacity) (c.self.invariant.1 room),
      rw c.answer_at.ensures.calls (places_replied c.self.inside.places calls c.place_of-place.result c.args.time c.args.reply c.self.invariant.2),
    )

-- the last call that waits has the reply
pub returns : goal.returns
returns c =
    answered_state _ c.args.self.now c.args.session c.args.call c.args.time c.args.reply c.place_of-place.result c.answer_at.new.calls.items c.self.view_is
    c.place_of-place.ensures c.answer_at.ensures.calls
