use Rattle.std.proofs.Common.{ap, sym, ◌∙◌}
use Rattle.std.specs.List.{position}
use Rattle.mz_history.specs.StreamBook.{is_of, with_line}
use Rattle.mz_history.proofs.Live.{unchanged}
use Rattle.mz_history.proofs.streams.push_one.Goals as goal

pub push_at-requires-clause-there : goal.push_at-requires-clause-there
push_at-requires-clause-there c =
    sym c.in-Some.is ∙ c.place_of.ensures ∙ ap (position (λ x. is_of c.args.replica.now x.present)) c.deref.ensures.value

pub returns-in-None-clause-ok : goal.returns-in-None-clause-ok
returns-in-None-clause-ok c =
    unchanged c.args.replica.now (with_line c.args.line) c.args.streams.now.items
    (sym c.in-None.is ∙ c.place_of.ensures ∙ ap (position (λ x. is_of c.args.replica.now x.present)) c.deref.ensures.value)
