-- A machine stays at rest as it settles, and the second turn says nothing.
use Rattle.std.specs.Prelude.{flat_map}
use Rattle.std.proofs.Common.{◌≡◌, [], ap, ◌∙◌}
use Rattle.mz_books.specs.Holds.{pending}
use Rattle.mz_books.specs.Owed.{peek_rows}
use Rattle.mz_books.specs.Sessions.{session_name}
use Rattle.mz_script.specs.EventTexts.{finished_text}
use Rattle.mz_script.specs.LineEvents.{commits_if_queued, settles, turns_all}
use Rattle.mz_script.specs.Script.{finishes_if_open}
use Rattle.mz_script.specs.ScriptLine.{Machine, and_then}
use Rattle.mz_script_laws.specs.Rest.{IsAtRest}
use Rattle.mz_script_laws.specs.Turns.{Turned}
use Rattle.mz_script_laws.proofs.RoundLines.{commits_queued_rests, finishes_open_rests}
use Rattle.mz_script_laws.proofs.Turning.{turns_made}

-- a turn of a machine at rest
pub turns_turn : (machine : Machine) → IsAtRest machine → Turned machine (turns_all machine)
turns_turn machine rest = turns_made machine rest.one rest.legal rest.whole

-- it stays at rest
pub turns_rest : (machine : Machine) → IsAtRest machine → IsAtRest (turns_all machine).machine
turns_rest machine rest =
    let t = turns_turn machine rest in record { legal = t.turn.legal; whole = t.whole; one = t.one }

-- where no peek is pending, a turn says nothing
pub turns_quiet : (machine : Machine) → IsAtRest machine → pending machine.log ≡ []
    → (turns_all machine).text ≡ []
turns_quiet machine rest none =
    (turns_turn machine rest).text
    ∙ ap (flat_map (λ peek. finished_text (session_name machine.log peek.session) peek.call peek.time (peek_rows machine.log peek))) none

-- so a second turn says nothing
pub second_quiet : (machine : Machine) → IsAtRest machine
    → (turns_all (turns_all machine).machine).text ≡ []
second_quiet machine rest =
    turns_quiet (turns_all machine).machine (turns_rest machine rest) (turns_turn machine rest).none_pending

-- and a machine that settles stays at rest
pub settles_rests : (machine : Machine) → IsAtRest machine → IsAtRest (settles machine).machine
settles_rests machine rest =
    let finished = finishes_open_rests machine rest in
    let committed = commits_queued_rests (finishes_if_open machine).machine finished in
    let once = turns_rest (and_then (finishes_if_open machine) commits_if_queued).machine committed in
    turns_rest (and_then (and_then (finishes_if_open machine) commits_if_queued) turns_all).machine once
