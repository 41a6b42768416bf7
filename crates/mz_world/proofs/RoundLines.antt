-- Rounds: what is said of them, and the machine after it.
use Rattle.std.proofs.lemmas.List.{append-nil}
use Rattle.std.proofs.lemmas.Bool.{false≢true}
use Rattle.std.proofs.Common.{◌≡◌, ◌∙◌, ℕ, Bool, true, false, List, [], ◌++◌, Option, None, Some, Result, Ok, Err, is_some, ap, sym, refl, subst, if◌then◌else◌}
use Rattle.std.specs.Result.{is_ok}
use Rattle.mz_log.specs.Log.{Log}
use Rattle.mz_books.specs.Clusters.{cluster_of}
use Rattle.mz_books.specs.Entries.{after}
use Rattle.mz_books.specs.Given.{BeginRefusal, Begun, Did, DidFail, Given, begin_given}
use Rattle.mz_books.specs.Rounds.{Round, open_round, queued}
use Rattle.mz_books.specs.Sessions.{sessions}
use Rattle.mz_books.specs.States.{newest_state, replies_to}
use Rattle.mz_script.specs.EventTexts.{done_text, spent_text}
use Rattle.mz_script.specs.Script.{begin_text, begins, commits, finish_text, finishes, finishes_if_open}
use Rattle.mz_script.specs.ScriptLine.{Machine, and_then, only_says}
use Rattle.mz_shell.specs.Carrier.{DidLines}
use Rattle.mz_world.specs.Standing.{IsOf, is_begun}
use Rattle.mz_world.specs.Texts.{fault_text, round_text}
use Rattle.mz_core.specs.Told.{begin_cause, done_with, finishing_given, RefusesEach}
use Rattle.mz_core.specs.declared.fault.BeginFault.{BeginFault}
use Rattle.mz_core.specs.declared.fault.BeginFault.TheVariants.{RoundOpen, NoTime}
use Rattle.mz_core.specs.declared.calls.RoundDone.{RoundDone}
use Rattle.mz_world.specs.declared.world.World.{World}
use Rattle.mz_world.proofs.Carrying.{carried_both}
use Rattle.mz_world.proofs.Given.{begin_opens, finish_opens, none_begun, same_given}
use Rattle.mz_world.proofs.RoundTexts.{refusals_said, replies_said}
use Rattle.mz_world.proofs.Standing.{IsElseSame, of_log}

-- ---- a round is begun

-- what the log gives to a round that is to begin, by a clock that says this
abbrev pub beginning : Log → ℕ → Given Begun BeginRefusal
beginning log now = begin_given log now (open_round log)

-- a round was begun, or its fault told: the text is that of the machine
begin_carried : {C : Type 0} {Stands : C → Log → Type 0} (old new : World C) (machine : Machine) (clock : ℕ) (before now : List ℕ)
    (answer : Result Begun BeginRefusal) → clock ≡ old.moment → IsOf Stands old machine → IsElseSame old new
    → Did machine.log (beginning machine.log clock) answer (Stands new.core) → now ≡ before ++ begin_text machine.log answer
    → DidLines (IsOf Stands new) before now (begins machine)
begin_carried {Stands = Stands} old new machine clock before now answer says was same did text =
    subst (λ moment. Did machine.log (beginning machine.log moment) answer (Stands new.core) → DidLines (IsOf Stands new) before now (begins machine))
    (sym (says ∙ was.moment))
    (λ given. record {
      stands = of_log old new machine _ was same given.now;
      text = text ∙ ap (λ told. before ++ begin_text machine.log told) (sym given.is);
    }) did

-- none was
pub unbegun_carried : {C : Type 0} {Stands : C → Log → Type 0} (old new : World C) (machine : Machine) (clock : ℕ) (names : List (List ℕ))
    (before now : List ℕ) (fault : BeginFault) → clock ≡ old.moment → IsOf Stands old machine → IsElseSame old new
    → ((log : Log) → Stands new.core log → names ≡ sessions log)
    → DidFail machine.log (beginning machine.log clock) (begin_cause fault) (Stands new.core)
    → RefusesEach (queued machine.log) (Err fault) → now ≡ before ++ fault_text names fault
    → DidLines (IsOf Stands new) before now (begins machine)
unbegun_carried old new machine clock names before now (RoundOpen round) says was same named did each text =
    begin_carried old new machine clock before now _ says was same did text
unbegun_carried old new machine clock names before now (NoTime last moment commands) says was same named did each text =
    let known = named _ did.now ∙ begin_opens machine.log clock (open_round machine.log) in
    begin_carried old new machine clock before now _ says was same did
    (text ∙ ap (λ words. before ++ (spent_text last moment ++ words)) (refusals_said machine.log names last commands (queued machine.log) known each))

-- ---- a round is applied

-- the text of a round that was applied is that of the machine, and of none that none was
finish_words : (log : Log) (names : List (List ℕ)) (round : Option Round) (done : RoundDone) → names ≡ sessions log
    → (finishing_given log round).answer ≡ Ok done → is_some round ≡ true × (round_text names done ≡ finish_text log round)
finish_words log names None done known is = absurd (cc)
finish_words log names (Some round) done known is =
    let same : done_with round (replies_to (cluster_of log) (newest_state log) round.commands) ≡ done = cc in (
      refl,
      ap (round_text names) (sym same)
          ∙ ap (λ words. done_text round.number ++ words)
          (replies_said log names round.time (replies_to (cluster_of log) (newest_state log) round.commands) known),
    )

-- the open round was applied
pub finished_carried : {C : Type 0} {Stands : C → Log → Type 0} (old new : World C) (machine : Machine) (names : List (List ℕ)) (before now : List ℕ)
    (done : RoundDone) → IsOf Stands old machine → IsElseSame old new
    → ((log : Log) → Stands new.core log → names ≡ sessions log)
    → Did machine.log (finishing_given machine.log (open_round machine.log)) (Ok done) (Stands new.core)
    → now ≡ before ++ round_text names done → DidLines (IsOf Stands new) before now (finishes machine)
finished_carried {Stands = Stands} old new machine names before now done was same named did text =
    let known = named _ did.now ∙ finish_opens machine.log (open_round machine.log) in
    let words = finish_words machine.log names (open_round machine.log) done known did.is in
    let given = sym (same_given machine.log (open_round machine.log)) in
    record {
      stands = subst (λ entries. IsOf Stands new (record machine { log = after entries machine.log })) given
          (of_log old new machine _ was same did.now);
      text = text ∙ ap (λ said. before ++ said) words.1;
    }

-- which is so where one is open
pub finished_if_open : {C : Type 0} {Stands : C → Log → Type 0} (old new : World C) (machine : Machine) (names : List (List ℕ)) (before now : List ℕ)
    (done : RoundDone) → IsOf Stands old machine → IsElseSame old new
    → ((log : Log) → Stands new.core log → names ≡ sessions log)
    → Did machine.log (finishing_given machine.log (open_round machine.log)) (Ok done) (Stands new.core)
    → now ≡ before ++ round_text names done → DidLines (IsOf Stands new) before now (finishes_if_open machine)
finished_if_open {Stands = Stands} old new machine names before now done was same named did text =
    let known = named _ did.now ∙ finish_opens machine.log (open_round machine.log) in
    subst (λ opened. DidLines (IsOf Stands new) before now (if opened then finishes machine else only_says machine []))
    (sym (finish_words machine.log names (open_round machine.log) done known did.is).0)
    (finished_carried old new machine names before now done was same named did text)

-- ---- a round is committed

-- a round is begun where none is open
unopened : (log : Log) (now : ℕ) (round : Option Round) → is_ok (begin_given log now round).answer ≡ true → is_some round ≡ false
unopened log now None begun = refl
unopened log now (Some round) begun = absurd (false≢true begun)

-- a round was begun, and then applied
pub both_carried : {Middle : Machine → Type 0} (Now : Machine → Type 0) {before middle now : List ℕ} (machine : Machine)
    → is_begun machine ≡ true → DidLines Middle before middle (begins machine)
    → DidLines Now middle now (finishes_if_open (begins machine).machine) → DidLines Now before now (commits machine)
both_carried Now {before = before} {now = now} machine begun one two =
    subst (λ opened. DidLines Now before now (if opened then begins machine else and_then (begins machine) finishes_if_open))
    (sym (unopened machine.log machine.moment (open_round machine.log) begun))
    (carried_both (begins machine) finishes_if_open one two)

-- where none was begun and none is open, none is applied
then_idle : {Now : Machine → Type 0} {now : List ℕ} (machine : Machine) → is_some (open_round machine.log) ≡ false → Now machine
    → DidLines Now now now (finishes_if_open machine)
then_idle {Now = Now} {now = now} machine none stands =
    subst (λ opened. DidLines Now now now (if opened then finishes machine else only_says machine [])) (sym none)
    (record { stands = stands; text = sym (append-nil now) })

one_carried-step : {Now : Machine → Type 0} {before now : List ℕ} (machine : Machine) → is_begun machine ≡ false
    → DidLines Now before now (begins machine) → (opened : Bool) → is_some (open_round machine.log) ≡ opened
    → DidLines Now before now (if opened then begins machine else and_then (begins machine) finishes_if_open)
one_carried-step machine none one true is = one
one_carried-step machine none one false is =
    carried_both (begins machine) finishes_if_open one
    (then_idle (begins machine).machine
    (ap is_some (none_begun machine.log machine.moment (open_round machine.log) none) ∙ is) one.stands)

-- none was begun, and none is applied
pub one_carried : {Now : Machine → Type 0} {before now : List ℕ} (machine : Machine) → is_begun machine ≡ false
    → DidLines Now before now (begins machine) → DidLines Now before now (commits machine)
one_carried machine none one = one_carried-step machine none one (is_some (open_round machine.log)) refl
