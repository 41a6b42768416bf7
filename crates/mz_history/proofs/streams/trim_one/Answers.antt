use Rattle.std.proofs.Common.{ap, sym, ◌∙◌}
use Rattle.std.specs.List.{position}
use Rattle.mz_history.specs.StreamBook.{is_of, trimmed_to}
use Rattle.mz_history.proofs.Live.{changed_at, unchanged}
use Rattle.mz_history.proofs.streams.trim_one.Goals as goal

-- no other is of the replica
pub returns-in-Some : goal.returns-in-Some
returns-in-Some c =
    changed_at c.args.replica.now (trimmed_to c.args.taken) c.args.streams.now.items c.in-Some.place c.index_mut.result.now c.trim.new.self c.requires
    (sym c.in-Some.is ∙ c.place_of.ensures ∙ ap (position (λ x. is_of c.args.replica.now x.present)) c.deref.ensures.value) c.index_mut.ensures.value
    (ap (λ t. t.present) c.trim.ensures)

pub returns-in-None : goal.returns-in-None
returns-in-None c =
    unchanged c.args.replica.now (trimmed_to c.args.taken) c.args.streams.now.items
    (sym c.in-None.is ∙ c.place_of.ensures ∙ ap (position (λ x. is_of c.args.replica.now x.present)) c.deref.ensures.value)
