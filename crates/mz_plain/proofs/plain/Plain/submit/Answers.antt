use Rattle.std.proofs.Common.{sym, ◌∙◌, arith}
use Rattle.std.proofs.lemmas.Bool.{le-leb}
use Rattle.mz_books.specs.Answer.{most_calls}
use Rattle.mz_plain.specs.Stands.{kept}
use Rattle.mz_kept_laws.proofs.Answering.{busy_did, crowded_did}
use Rattle.mz_kept_laws.proofs.Taking.{took_did}
use Rattle.mz_script_laws.proofs.BuiltLines.{plain_asked}
use Rattle.mz_plain.proofs.plain.Plain.submit.Goals as goal

-- the session waits for a call
pub returns-in-Some : goal.returns-in-Some
returns-in-Some c = λ log text s asks.
    busy_did (kept c.args.self.now) log c.args.session text c.args.asked c.in-Some.call s c.requires.number (sym c.outstanding.ensures ∙ c.in-Some.is)

-- there are as many calls as there may be
pub returns-then-self-ge-MOST_CALLS : goal.returns-then-self-ge-MOST_CALLS
returns-then-self-ge-MOST_CALLS c = λ log text s asks.
    crowded_did (kept c.args.self.now) log c.args.session text c.args.asked s c.requires.number (sym c.outstanding.ensures ∙ c.in_default.is)
    (le-leb most_calls c.args.self.now.calls (omega arith))

-- else what is asked for is queued, read or refused
pub returns : goal.returns
returns c = λ log text s asks.
    took_did (kept c.args.self.now) (kept c.take.new.self) log c.args.session text c.args.asked c.in_ok-take.field-0
    (record { stands = s; number = c.requires.number; free = sym c.outstanding.ensures ∙ c.in_default.is; room = omega arith })
    asks (plain_asked c.args.asked c.requires.built) c.in_ok-take.ensures.taken
