-- Each line that is built keeps a machine at rest and its log plain, and so do scripts.
use Rattle.std.proofs.Common.{◌≡◌, ℕ, ◌+◌, true, List, [], ◌∷◌, None, Some, refl}
use Rattle.std.specs.List.{AllByRecursion as Each}
use Rattle.std.proofs.lemmas.Bool.{and_parts, cond_both, false≢true}
use Rattle.mz_grammar.specs.declared.asked.Asked.{Asked}
use Rattle.mz_grammar.specs.declared.asked.Asked.TheVariants as asks
use Rattle.mz_statement.specs.Kind.{kind_of}
use Rattle.mz_statement.specs.declared.statement.Kind.{Kind}
use Rattle.mz_statement.specs.declared.statement.Kind.TheVariants as kind
use Rattle.mz_statement.specs.declared.statement.Statement.{Statement}
use Rattle.mz_statement.specs.declared.statement.Statement.TheVariants.{Query}
use Rattle.mz_books.specs.Answer.{as_of}
use Rattle.mz_books.specs.Safe.{Good}
use Rattle.mz_event_laws.proofs.GoodLogs.{legal_good}
use Rattle.mz_script.specs.Built.{after_built_line, after_built_lines, is_built, is_built_asked, is_built_kind, names_no_time}
use Rattle.mz_script.specs.EventTexts.{unbuilt_text}
use Rattle.mz_script.specs.LineEvents.{after_line, commits_if_queued, does, one_more, settles, turns_all}
use Rattle.mz_script.specs.Script.{finishes_if_open}
use Rattle.mz_script.specs.ScriptLine.{Machine, and_then, only_says, opening_machine}
use Rattle.mz_script.specs.declared.script_line.ScriptLine.{ScriptLine}
use Rattle.mz_script.specs.declared.script_line.ScriptLine.TheVariants.{Skipped, Unreadable, Says, Tick, BeginRound, FinishRound, CommitRound, Settle}
use Rattle.mz_script_laws.specs.Plain.{IsPlainAsked, IsPlainKind, IsPlainLog}
use Rattle.mz_script_laws.specs.Rest.{IsAtRest, IsHonest}
use Rattle.mz_script_laws.proofs.PlainLines.{begins_plain, commits_plain, commits_queued_plain, finishes_open_plain, finishes_plain, plain_turn}
use Rattle.mz_script_laws.proofs.PlainSays.{session_plain}
use Rattle.mz_script_laws.proofs.Resting.{opening_rests}
use Rattle.mz_script_laws.proofs.RoundLines.{begins_rests, commits_queued_rests, commits_rests, finishes_open_rests, finishes_rests}
use Rattle.mz_script_laws.proofs.SessionLines.{session_rests}
use Rattle.mz_script_laws.proofs.Settling.{turns_rest, turns_turn}

-- ---- what is built is plain

-- a kind of statement
plain_kind : (of : Kind) → is_built_kind of ≡ true → IsPlainKind of
plain_kind kind.Command e = tt
plain_kind kind.Query e = tt
plain_kind kind.Start e = absurd (false≢true e)
plain_kind kind.Commit e = absurd (false≢true e)
plain_kind kind.Retain e = absurd (false≢true e)
plain_kind kind.ShowFrontiers e = absurd (false≢true e)
plain_kind kind.Set e = absurd (false≢true e)

-- a statement names no time
no_time : (statement : Statement) → names_no_time statement ≡ true → as_of statement ≡ None
no_time (Query query None) e = refl
no_time (Query query (Some time)) e = absurd (false≢true e)
no_time other e = refl

-- what is asked for
pub plain_asked : (asked : Asked) → is_built_asked asked ≡ true → IsPlainAsked asked
plain_asked (asks.Statement statement) e =
    let parts = and_parts (is_built_kind (kind_of statement)) (names_no_time statement) e in
    (plain_kind (kind_of statement) parts.0, no_time statement parts.1)
plain_asked (asks.Syntax at) e = tt
plain_asked (asks.LiteralRange at) e = tt

-- ---- a line

-- a machine at rest whose log is plain
pub record IsPlainlyAtRest (machine : Machine) : Type 0 where
  pub rest : IsAtRest machine
  pub plain : IsPlainLog machine.log

-- its turn leaves it so
turns_plainly : (machine : Machine) → IsPlainlyAtRest machine → IsPlainlyAtRest (turns_all machine).machine
turns_plainly machine p = record {
  rest = turns_rest machine p.rest;
  plain = plain_turn machine.log (turns_all machine).machine.log (turns_turn machine p.rest).turn p.plain;
}

-- and so do its turns once all that waits is applied
settles_plainly : (machine : Machine) → IsPlainlyAtRest machine → IsPlainlyAtRest (settles machine).machine
settles_plainly machine p =
    turns_plainly (and_then (and_then (finishes_if_open machine) commits_if_queued) turns_all).machine
    (turns_plainly (and_then (finishes_if_open machine) commits_if_queued).machine (record {
      rest = commits_queued_rests (finishes_if_open machine).machine (finishes_open_rests machine p.rest);
      plain = commits_queued_plain (finishes_if_open machine).machine (finishes_open_plain machine p.plain);
    }))

-- each line that is built does
built_rests : (machine : Machine) (number : ℕ) (line : ScriptLine) → is_built line ≡ true → IsHonest line → IsPlainlyAtRest machine
    → IsPlainlyAtRest (does machine number line).machine
built_rests machine number Skipped e honest p = p
built_rests machine number Unreadable e honest p = p
built_rests machine number (Says name text asked) e honest p = record {
  rest = session_rests machine name text asked honest p.rest;
  plain = session_plain machine name text asked (plain_asked asked e) p.plain;
}
built_rests machine number (Tick moment) e honest p = record {
  rest = record {
    legal = p.rest.legal;
    whole = p.rest.whole;
    one = record { replica = p.rest.one.replica; is_one = p.rest.one.is_one; is_first = p.rest.one.is_first; placed = p.rest.one.placed };
  };
  plain = p.plain;
}
built_rests machine number BeginRound e honest p = record { rest = begins_rests machine p.rest; plain = begins_plain machine p.plain }
built_rests machine number FinishRound e honest p = record { rest = finishes_rests machine p.rest; plain = finishes_plain machine p.plain }
built_rests machine number CommitRound e honest p = record { rest = commits_rests machine p.rest; plain = commits_plain machine p.plain }
built_rests machine number Settle e honest p = settles_plainly machine p
built_rests machine number line e honest p = absurd (false≢true e)

-- a line that is counted leaves it so
counted : (machine : Machine) → IsPlainlyAtRest machine → IsPlainlyAtRest (one_more machine)
counted machine p = record {
  rest = record {
    legal = p.rest.legal;
    whole = p.rest.whole;
    one = record { replica = p.rest.one.replica; is_one = p.rest.one.is_one; is_first = p.rest.one.is_first; placed = p.rest.one.placed };
  };
  plain = p.plain;
}

-- so does each line, whether it is built or not
line_rests : (machine : Machine) (line : ScriptLine) → IsHonest line → IsPlainlyAtRest machine
    → IsPlainlyAtRest (after_built_line machine line).machine
line_rests machine line honest p =
    cond_both (is_built line) (after_line machine line) (only_says (one_more machine) (unbuilt_text (machine.lines + 1)))
    (λ said. IsPlainlyAtRest said.machine)
    (λ e. built_rests (one_more machine) (machine.lines + 1) line e honest (counted machine p)) (λ _. counted machine p)

-- ---- scripts

-- and so do lines one after another
lines_rest : (lines : List ScriptLine) → Each IsHonest lines → (machine : Machine) → IsPlainlyAtRest machine
    → IsPlainlyAtRest (after_built_lines lines machine).machine
lines_rest [] honest machine p = p
lines_rest (line ∷ lines) honest machine p = lines_rest lines honest.1 (after_built_line machine line).machine (line_rests machine line honest.0 p)

-- ---- what is told of it

-- a line keeps a machine at rest
pub line_keeps_rest : (machine : Machine) (line : ScriptLine) → IsHonest line → IsAtRest machine → IsPlainLog machine.log
    → IsAtRest (after_built_line machine line).machine
line_keeps_rest machine line honest rest plain = (line_rests machine line honest (record { rest = rest; plain = plain })).rest

-- and its log plain
pub line_keeps_plain : (machine : Machine) (line : ScriptLine) → IsHonest line → IsAtRest machine → IsPlainLog machine.log
    → IsPlainLog (after_built_line machine line).machine.log
line_keeps_plain machine line honest rest plain = (line_rests machine line honest (record { rest = rest; plain = plain })).plain

-- a script leaves a machine
script_rests : (lines : List ScriptLine) → Each IsHonest lines → IsPlainlyAtRest (after_built_lines lines opening_machine).machine
script_rests lines honest = lines_rest lines honest opening_machine (record { rest = opening_rests; plain = tt })

-- at rest
pub script_at_rest : (lines : List ScriptLine) → Each IsHonest lines → IsAtRest (after_built_lines lines opening_machine).machine
script_at_rest lines honest = (script_rests lines honest).rest

-- with a plain log
pub script_plain : (lines : List ScriptLine) → Each IsHonest lines → IsPlainLog (after_built_lines lines opening_machine).machine.log
script_plain lines honest = (script_rests lines honest).plain

-- and a good one
pub script_good : (lines : List ScriptLine) → Each IsHonest lines → Good (after_built_lines lines opening_machine).machine.log
script_good lines honest =
    let p = script_at_rest lines honest in legal_good (after_built_lines lines opening_machine).machine.log p.legal p.whole
