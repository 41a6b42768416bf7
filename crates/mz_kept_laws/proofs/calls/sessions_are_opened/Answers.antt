-- Each clause is a lemma on what a log gives an opening.
use Rattle.std.proofs.Common.{[], ◌∷◌, refl, sym}
use Rattle.std.proofs.lemmas.List.{length-append}
use Rattle.mz_kept.specs.Steps.{opened}
use Rattle.mz_kept_laws.proofs.Opening.{many_did, opened_did, taken_did}
use Rattle.mz_kept_laws.proofs.calls.sessions_are_opened.Goals as goal

pub returns-clause-taken : goal.returns-clause-taken
returns-clause-taken c = taken_did

pub returns-clause-many : goal.returns-clause-many
returns-clause-many c = many_did

pub returns-clause-opened : goal.returns-clause-opened
returns-clause-opened c = λ kept log name stands is_new room.
    opened_did kept (opened name kept) log name _ stands is_new room refl (sym (length-append kept.names (name ∷ [])))
