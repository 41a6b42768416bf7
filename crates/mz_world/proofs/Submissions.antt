-- Submissions: what a session is told, and the machine after it.
use Rattle.std.proofs.Common.{◌≡◌, ◌∙◌, ℕ, List, ◌++◌, Option, Some, Ok, Err, ap, sym, subst}
use Rattle.mz_refusal.specs.declared.fault.CallFault.{CallFault}
use Rattle.mz_refusal.specs.declared.fault.CallFault.TheVariants as fault
use Rattle.mz_refusal.specs.declared.refusal.Refusal.{Refusal}
use Rattle.mz_resolution.specs.Steps.{Step, ◌>>=◌}
use Rattle.mz_log.specs.declared.entry.Entry.{Entry}
use Rattle.mz_log.specs.declared.entry.Entry.TheVariants.{Opened, Queue, Begin, Apply, Read, Finish, Refused, Instant, Cancel, Close, Acquire, Down, Release, Fed, Absorbed, Join, Crash, Cluster}
use Rattle.mz_log.specs.Log.{Log}
use Rattle.mz_books.specs.Given.{Did, DidFail, Given, gives_or_refuses}
use Rattle.mz_script.specs.EventTexts.{refused_text}
use Rattle.mz_script.specs.Script.{answered, entry_text}
use Rattle.mz_script.specs.ScriptLine.{Machine}
use Rattle.mz_shell.specs.Carrier.{DidLines}
use Rattle.mz_world.specs.Standing.{IsOf}
use Rattle.mz_world.specs.Texts.{submitted_text}
use Rattle.mz_core.specs.Told.{cause, told_of}
use Rattle.mz_core.specs.declared.calls.Submitted.{Submitted}
use Rattle.mz_core.specs.declared.calls.Submitted.TheVariants as submitted
use Rattle.mz_world.specs.declared.world.World.{World}
use Rattle.mz_world.proofs.Standing.{IsElseSame, of_log}

-- what is given where a step gives an entry
abbrev pub step_given : Log → Step Entry → Given (Option Submitted) Refusal
step_given log step = gives_or_refuses log (do
  entry ← step
  Ok (entry, told_of entry))

-- what is said of an entry is what is told of it
entry_told : (log : Log) (name : List ℕ) (told : Submitted) (entry : Entry) → told_of entry ≡ Some told
    → submitted_text name told ≡ entry_text log name entry
entry_told log name told (Queue session call statement) h =
    let same : submitted.Queued call ≡ told = cc in ap (submitted_text name) (sym same)
entry_told log name told (Read session call peek time statement collection) h =
    let same : submitted.Reading call time peek ≡ told = cc in ap (submitted_text name) (sym same)
entry_told log name told (Refused session call text refusal) h =
    let same : submitted.Refused call refusal ≡ told = cc in ap (submitted_text name) (sym same)
entry_told log name told (Opened other) h = absurd (cc)
entry_told log name told (Begin number time) h = absurd (cc)
entry_told log name told (Apply time replies) h = absurd (cc)
entry_told log name told (Finish peek rows) h = absurd (cc)
entry_told log name told (Instant session call statement time) h = absurd (cc)
entry_told log name told (Cancel session call) h = absurd (cc)
entry_told log name told (Close session) h = absurd (cc)
entry_told log name told (Acquire hold collection time) h = absurd (cc)
entry_told log name told (Down hold time) h = absurd (cc)
entry_told log name told (Release hold) h = absurd (cc)
entry_told log name told (Fed replica incarnation taken to) h = absurd (cc)
entry_told log name told (Absorbed replica incarnation turn taken ready frontiers) h = absurd (cc)
entry_told log name told (Join replica incarnation cluster) h = absurd (cc)
entry_told log name told (Crash replica) h = absurd (cc)
entry_told log name told (Cluster other) h = absurd (cc)

-- a session was told what became of its call
pub told_carried : {C : Type 0} {Stands : C → Log → Type 0} (old new : World C) (machine : Machine) (name before now : List ℕ) (told : Submitted)
    (step : Step Entry) → IsOf Stands old machine → IsElseSame old new
    → Did machine.log (step_given machine.log step) (Ok (Some told)) (Stands new.core) → now ≡ before ++ submitted_text name told
    → DidLines (IsOf Stands new) before now (answered machine name step)
told_carried old new machine name before now told (Ok entry) was same did text =
    let is = did.is in let told_so : told_of entry ≡ Some told = cc in
    let said = entry_told machine.log name told entry told_so in record {
      stands = of_log old new machine _ was same did.now;
      text = text ∙ ap (λ words. before ++ words) said;
    }
told_carried old new machine name before now told (Err refusal) was same did text = let never = did.is in absurd (cc)

-- a session was told that its submission is no call
pub refused_carried : {C : Type 0} {Stands : C → Log → Type 0} (old new : World C) (machine : Machine) (name before now : List ℕ) (refusal : Refusal)
    (step : Step Entry) → IsOf Stands old machine → IsElseSame old new
    → Did machine.log (step_given machine.log step) (Err refusal) (Stands new.core) → now ≡ before ++ refused_text name refusal
    → DidLines (IsOf Stands new) before now (answered machine name step)
refused_carried old new machine name before now refusal (Ok entry) was same did text = let never = did.is in absurd (cc)
refused_carried old new machine name before now refusal (Err cause) was same did text =
    let is = did.is in let told : refusal ≡ cause = cc in record {
      stands = of_log old new machine _ was same did.now;
      text = text ∙ ap (λ other. before ++ refused_text name other) told;
    }

-- a fault that is a refusal was one
pub refused_by : {A : Type 0} (log : Log) (given : Given A Refusal) (Now : Log → Type 0) (met : CallFault) (refusal : Refusal)
    → met ≡ fault.Refused refusal → DidFail log given (cause met) Now → Did log given (Err refusal) Now
refused_by log given Now met refusal same did = subst (λ own. DidFail log given (cause own) Now) same did
