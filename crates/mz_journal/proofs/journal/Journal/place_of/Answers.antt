-- the call that waits at the place of its slot is the last that does
use Rattle.std.proofs.Common.{slice_index_or, sym, ap, ◌∙◌, subst}
use Rattle.mz_journal.specs.Journal.{is_waiting}
use Rattle.mz_journal.specs.Slots.{IsLast}
use Rattle.mz_journal.proofs.SlotLemmas.{slot_is_last}
use Rattle.mz_journal.proofs.journal.Journal.place_of.Goals as goal

pub returns-in-Some : goal.returns-in-Some
returns-in-Some c =
    let calls = c.self.inside.calls.items in
    let place = slice_index_or c.self.inside.places c.slot_of.result 0 in
    let found = rw c.deref.ensures.value at c.in-Some.ensures.lookup.3 in
    subst (λ l. IsLast (is_waiting c.args.session c.args.call) l place) (ap (λ s. s.calls) c.self.view_is)
    (slot_is_last c.self.inside.places calls c.args.session c.args.call place
    (rw c.slot_of.ensures.slot at c.slot_of.ensures.within) c.self.invariant.2
    (ap (λ s. slice_index_or c.self.inside.places s 0) c.slot_of.ensures.slot) found.0
    (λ other. sym (ap (is_waiting c.args.session c.args.call) (found.1 other)) ∙ sym c.is_waiting.ensures ∙ c.if-is_waiting.true))
