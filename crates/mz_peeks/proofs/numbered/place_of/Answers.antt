use Rattle.std.proofs.Common.{rules}
use Rattle.std.proofs.lemmas.List.Sorted.{answers_always}
use Rattle.mz_plan.specs.declared.command.PendingPeek.{PendingPeek}
use Rattle.mz_peeks.proofs.Found.{placed}
use Rattle.mz_peeks.proofs.numbered.place_of.Goals as goal

-- the closure gives a peek's number
pub returns : goal.returns
returns c =
    let facts = c.binary_search_by_key.ensures in
    let by_key = facts.position (λ (waiting : PendingPeek). waiting.peek) (answers_always _ _ _ (λ f a r g called. search rules)) in
    rw c.ok.ensures.value (placed c.args.peek c.args.pending.now c.requires _ facts.bound by_key)
