-- the call stands at the place of its slot, and took the room
use Rattle.std.proofs.Common.{◌≡◌, true, ◌++◌, ◌∷◌, [], length, sym, ap, ◌∙◌, true≢false, arith}
use Rattle.std.proofs.lemmas.List.{length-append}
use Rattle.mz_journal.proofs.SlotLemmas.{places_pushed}
use Rattle.mz_journal.proofs.journal.Journal.put_call.Goals as goal

pub invariant_of-self : goal.invariant_of-self
invariant_of-self c =
    let calls = c.self.inside.calls.items in
    let room : c.self.inside.has_room ≡ true = ap (λ s. s.has_room) c.self.view_is ∙ c.requires in
    let few = rw room at c.self.invariant.0 in
    let pushed : c.push.new.self.items ≡ calls ++ c.args.call ∷ [] = rw c.unwrap.ensures at c.push.ensures.items in
    let placed : c.len.result ≡ length calls = c.len.ensures ∙ c.self.inside.calls.ok.0 in (
      rw pushed (omega (arith, few, length-append calls (c.args.call ∷ []))),
      λ e. absurd (true≢false (sym e)),
      rw (pushed, c.slot_of.ensures.slot, placed) (places_pushed c.self.inside.places calls c.args.call c.self.told c.self.invariant.2),
    )
