use Rattle.std.proofs.Common.{◌≡◌, ℕ, Result, Ok, Err, OnOk, rules}
use Rattle.std.proofs.lemmas.Fn.{always_returns_same}
use Rattle.mz_log.specs.declared.journal.CallEntry.{CallEntry}
use Rattle.mz_journal.proofs.Sorting.{sorted_history}
use Rattle.mz_journal.proofs.journal.sort_by_time.Goals as goal

-- what follows from what is there at the `Ok`
at_ok : {T E P Q : Type 0} → (r : Result T E) → (P → Q) → OnOk r P → OnOk r Q
at_ok (Ok x) f p = f p
at_ok (Err e) f p = p

-- a stable sort by times makes the history
pub returns : goal.returns
returns c =
    let time : CallEntry → ℕ = λ call. call.time in
    let computes = always_returns_same _ (λ a r. r ≡ time a.0.now) _ (λ a r q k. search rules) in
    at_ok c.sort_by_key.result
    (λ up. sorted_history c.args.calls.now.items c.sort_by_key.new.self.items (up time computes) (c.sort_by_key.ensures.stable time computes))
    c.sort_by_key.ensures.sorted
