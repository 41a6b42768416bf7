-- Machines at rest: turns, and what is carried out at rest.
use Rattle.std.proofs.Common.{◌≡◌, ◌∙◌, ℕ, ◌+◌, true, List, [], ◌∷◌, ◌++◌, map, ap, sym, refl, subst, if◌then◌else◌}
use Rattle.mz_bag.specs.Weighted.{Weighted}
use Rattle.mz_plan.specs.declared.command.PendingPeek.{PendingPeek}
use Rattle.mz_log.specs.declared.entry.Entry.TheVariants.{Finish, Fed, Absorbed}
use Rattle.mz_log.specs.Log.{Log}
use Rattle.mz_books.specs.Entries.{after}
use Rattle.mz_books.specs.Holds.{pending}
use Rattle.mz_books.specs.Owed.{peek_rows}
use Rattle.mz_books.specs.Sessions.{sessions}
use Rattle.mz_script.specs.declared.script_line.ScriptLine.{ScriptLine}
use Rattle.mz_script.specs.Built.{after_built_line, is_built}
use Rattle.mz_script.specs.EventTexts.{unbuilt_text}
use Rattle.mz_script.specs.LineEvents.{after_line, commits_if_queued, does, one_more, turns_all}
use Rattle.mz_script.specs.Script.{finishes_if_open}
use Rattle.mz_script.specs.ScriptLine.{Machine, Said, and_then, only_says}
use Rattle.mz_script_laws.specs.Rest.{IsAtRest}
use Rattle.mz_shell.specs.Carrier.{DidLines}
use Rattle.mz_world.specs.Standing.{Carries, IsOf, StandsFor}
use Rattle.mz_world.specs.Texts.{reads_text}
use Rattle.mz_core.specs.Told.{reads_of}
use Rattle.mz_script_laws.specs.Turns.{IsTurn}
use Rattle.mz_core.specs.declared.calls.FinishedRead.{FinishedRead}
use Rattle.mz_world.specs.declared.world.World.{World}
use Rattle.mz_script_laws.proofs.RoundLines.{commits_queued_rests, finishes_open_rests}
use Rattle.mz_script_laws.proofs.Settling.{turns_rest, turns_turn}
use Rattle.mz_world.proofs.Carrying.{carried_both}
use Rattle.mz_world.proofs.RoundTexts.{reads_said}
use Rattle.mz_world.proofs.Standing.{IsElseSame}

-- what was carried out left a machine at rest
pub rested : {C : Type 0} {Stands : C → Log → Type 0} {world : World C} {before now : List ℕ} {said : Said}
    → DidLines (IsOf Stands world) before now said → IsAtRest said.machine → DidLines (StandsFor Stands world) before now said
rested carried rest = record { stands = record { is_of = carried.stands; rest = rest }; text = carried.text }

-- peeks that have their rows open no session
finishes_open : (rows : PendingPeek → Weighted) (peeks : List PendingPeek) (log : Log)
    → sessions (after (map (λ peek. Finish peek.peek (rows peek)) peeks) log) ≡ sessions log
finishes_open rows [] log = refl
finishes_open rows (peek ∷ peeks) log = finishes_open rows peeks (Finish peek.peek (rows peek) ∷ log)

-- no session is opened in a turn
turn_opens : (log later : Log) → IsTurn log later → sessions later ≡ sessions log
turn_opens log later turn =
    let fed : Log = Fed turn.replica turn.incarnation turn.fed turn.to ∷ log in
    let absorbed : Log = Absorbed turn.replica turn.incarnation turn.turn turn.taken turn.ready turn.frontiers ∷ fed in
    ap sessions turn.is ∙ (ap (λ entries. sessions (after entries absorbed)) turn.finishes_all
    ∙ finishes_open (peek_rows log) (pending log) absorbed)

-- all replicas made a turn
pub turned_carried : {C : Type 0} {Stands : C → Log → Type 0} (old new : World C) (machine : Machine) (names : List (List ℕ)) (before now : List ℕ)
    (reads : List FinishedRead) → StandsFor Stands old machine → IsElseSame old new
    → ((later : Log) → IsTurn machine.log later → Stands new.core later) → ((log : Log) → Stands new.core log → names ≡ sessions log)
    → reads ≡ reads_of machine.log → now ≡ before ++ reads_text names reads → DidLines (StandsFor Stands new) before now (turns_all machine)
turned_carried old new machine names before now reads was same turn named own text =
    let turned = turns_turn machine was.rest in
    let core = turn (turns_all machine).machine.log turned.turn in
    let known = named (turns_all machine).machine.log core ∙ turn_opens machine.log (turns_all machine).machine.log turned.turn in
    record {
      stands = record {
        is_of = record {
          core = core;
          moment = same.moment ∙ (was.is_of.moment ∙ sym turned.moment);
          lines = same.lines ∙ (was.is_of.lines ∙ sym turned.lines);
        };
        rest = turns_rest machine was.rest;
      };
      text = text ∙ (ap (λ told. before ++ reads_text names told) own
          ∙ ap (λ words. before ++ words) (reads_said machine.log names known ∙ sym turned.text));
    }

-- two things carried out one after the other, and the machines after them at rest
pub both_rested : {C : Type 0} {Stands : C → Log → Type 0} {old middle new : World C} {before between now : List ℕ}
    → Carries Stands old middle before between finishes_if_open → Carries Stands middle new between now commits_if_queued
    → (machine : Machine) → StandsFor Stands old machine
    → DidLines (StandsFor Stands new) before now (and_then (finishes_if_open machine) commits_if_queued)
both_rested first second machine stands =
    let one = rested (first machine stands.is_of) (finishes_open_rests machine stands.rest) in
    let two = rested (second (finishes_if_open machine).machine one.stands.is_of)
    (commits_queued_rests (finishes_if_open machine).machine one.stands.rest) in
    carried_both (finishes_if_open machine) commits_if_queued one two

-- ---- lines

-- the machine is at rest with one line more
counted_rests : (machine : Machine) → IsAtRest machine → IsAtRest (one_more machine)
counted_rests machine rest = record {
  legal = rest.legal;
  whole = rest.whole;
  one = record { replica = rest.one.replica; is_one = rest.one.is_one; is_first = rest.one.is_first; placed = rest.one.placed };
}

-- one line more is counted
pub stands_counted : {C : Type 0} {Stands : C → Log → Type 0} (old new : World C) (machine : Machine) → new.core ≡ old.core
    → new.moment ≡ old.moment → new.lines ≡ old.lines + 1 → StandsFor Stands old machine → StandsFor Stands new (one_more machine)
stands_counted {Stands = Stands} old new machine core moment lines stands = record {
  is_of = record {
    core = subst (λ own. Stands own machine.log) (sym core) stands.is_of.core;
    moment = moment ∙ stands.is_of.moment;
    lines = lines ∙ ap (λ n. n + 1) stands.is_of.lines;
  };
  rest = counted_rests machine stands.rest;
}

-- a line that is built was carried out
pub built_carried : {Now : Machine → Type 0} {before now : List ℕ} (machine : Machine) (line : ScriptLine) → is_built line ≡ true
    → DidLines Now before now (after_line machine line) → DidLines Now before now (after_built_line machine line)
built_carried {Now = Now} {before = before} {now = now} machine line built carried =
    subst (λ does_it. DidLines Now before now
    (if does_it then after_line machine line else only_says (one_more machine) (unbuilt_text (machine.lines + 1)))) (sym built) carried

-- what a line says was carried out
pub follows : {Now : Machine → Type 0} {before now : List ℕ} (machine : Machine) (line other : ScriptLine) → line ≡ other
    → DidLines Now before now (does machine machine.lines other) → DidLines Now before now (does machine machine.lines line)
follows {Now = Now} {before = before} {now = now} machine line other same carried =
    subst (λ own. DidLines Now before now (does machine machine.lines own)) (sym same) carried
