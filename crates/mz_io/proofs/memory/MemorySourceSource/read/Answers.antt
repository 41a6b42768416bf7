-- The copied bytes are the front of what was left.
use Rattle.std.proofs.Common.{◌∙◌, ap, sym}
use Rattle.std.proofs.lemmas.List.{take_rest}
use Rattle.mz_io.proofs.FrontLemmas.{front_given, none_left}
use Rattle.mz_io.proofs.memory.MemorySourceSource.read.Goals as goal

-- what was left began with the bytes that were copied, and none were copied only where none were left
pub returns-clause-bytes : goal.returns-clause-bytes
returns-clause-bytes c =
    let bytes = c.self.inside.bytes.items in
    let given = c.self.inside.given in
    let front = rw (take_rest, c.deref.ensures.value) at c.copy_front-count.ensures.front in
    let count = rw (take_rest, c.deref.ensures.value) at c.copy_front-count.ensures.count in (
      ap (λ s. s.left) (sym c.self.view_is) ∙ front_given bytes c.copy_front-count.new.into given _ front,
      λ none room. none_left bytes given _ c.self.inside.largest _ c.self.invariant.1 count none room,
    )
