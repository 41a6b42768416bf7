-- The texts of several calls, by the names of sessions in order of opening.
use Rattle.std.specs.Prelude.{ℕ, ◌-◌, List, [], ◌++◌, flat_map, slice_get, unwrap_or}
use Rattle.mz_refusal.specs.declared.refusal.Refusal.TheVariants.{TimeSpent}
use Rattle.mz_script.specs.EventTexts.{call_refused_text, done_text, finished_text, open_text, queued_text, reading_text, replied_text, spent_text}
use Rattle.mz_core.specs.declared.fault.BeginFault.{BeginFault}
use Rattle.mz_core.specs.declared.fault.BeginFault.TheVariants.{RoundOpen, NoTime}
use Rattle.mz_core.specs.declared.calls.FinishedRead.{FinishedRead}
use Rattle.mz_core.specs.declared.calls.RoundDone.{RoundDone}
use Rattle.mz_core.specs.declared.calls.RoundReply.{RoundReply}
use Rattle.mz_core.specs.declared.calls.Submitted.{Submitted}
use Rattle.mz_core.specs.declared.calls.Submitted.TheVariants.{Queued, Reading, Refused}
use Rattle.mz_core.specs.declared.calls.Waiting.{Waiting}

-- the name of the session of this number
abbrev pub name_in : List (List ℕ) → ℕ → List ℕ
name_in names session = unwrap_or (slice_get names (session - 1)) []

-- what is said of each command that is refused for want of time
abbrev pub refusals_text : List (List ℕ) → ℕ → List Waiting → List ℕ
refusals_text names last commands =
    flat_map (λ command. call_refused_text (name_in names command.session) command.call (TimeSpent last)) commands

-- what is said of the replies of a round at a time
abbrev pub replies_text : List (List ℕ) → ℕ → List RoundReply → List ℕ
replies_text names time replies =
    flat_map (λ replied. replied_text (name_in names replied.session) replied.call time replied.reply) replies

-- what is said of reads that have their rows
abbrev pub reads_text : List (List ℕ) → List FinishedRead → List ℕ
reads_text names reads =
    flat_map (λ read. finished_text (name_in names read.session) read.call read.time read.rows) reads

-- what became of a call of the session of this name
abbrev pub submitted_text : List ℕ → Submitted → List ℕ
submitted_text name (Queued call) = queued_text name call
submitted_text name (Reading call time peek) = reading_text name call time peek
submitted_text name (Refused call refusal) = call_refused_text name call refusal

-- what is said where no round is begun
abbrev pub fault_text : List (List ℕ) → BeginFault → List ℕ
fault_text names (RoundOpen round) = open_text round
fault_text names (NoTime last now commands) = spent_text last now ++ refusals_text names last commands

-- what is said of a round that was applied
abbrev pub round_text : List (List ℕ) → RoundDone → List ℕ
round_text names done = done_text done.round ++ replies_text names done.time done.replies
