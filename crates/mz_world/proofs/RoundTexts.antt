-- The texts of rounds and reads, as code tells them, are those of the log.
use Rattle.std.proofs.Common.{◌≡◌, ◌∙◌, ℕ, List, map, flat_map, ap, sym}
use Rattle.std.proofs.lemmas.List.Folds.{flat_map-map}
use Rattle.mz_refusal.specs.declared.refusal.Refusal.TheVariants.{TimeSpent}
use Rattle.mz_log.specs.declared.entry.Replied.{Replied}
use Rattle.mz_log.specs.Log.{Log}
use Rattle.mz_books.specs.Entries.{Queued}
use Rattle.mz_books.specs.Holds.{pending}
use Rattle.mz_books.specs.Owed.{peek_rows}
use Rattle.mz_books.specs.Sessions.{session_name, sessions}
use Rattle.mz_script.specs.EventTexts.{call_refused_text, finished_text, replied_text}
use Rattle.mz_script.specs.Script as script
use Rattle.mz_world.specs.Texts.{reads_text, refusals_text, replies_text}
use Rattle.mz_core.specs.Told.{command_of, read_of, reads_of, reply_of}
use Rattle.mz_core.specs.declared.calls.Waiting.{Waiting}

-- what is said of commands that are refused for want of time
pub refusals_said : (log : Log) (names : List (List ℕ)) (last : ℕ) (waiting : List Waiting) (commands : List Queued) → names ≡ sessions log
    → map command_of waiting ≡ commands → refusals_text names last waiting ≡ script.spent_texts log last commands
refusals_said log names last waiting commands same own =
    ap (λ known. refusals_text known last waiting) same
    ∙ (sym (flat_map-map (λ command. call_refused_text (session_name log command.session) command.call (TimeSpent last)) command_of waiting)
    ∙ ap (script.spent_texts log last) own)

-- what is said of the replies of a round
pub replies_said : (log : Log) (names : List (List ℕ)) (time : ℕ) (replies : List Replied) → names ≡ sessions log
    → replies_text names time (map reply_of replies) ≡ script.replies_text log time replies
replies_said log names time replies same =
    ap (λ known. replies_text known time (map reply_of replies)) same
    ∙ flat_map-map (λ replied. replied_text (session_name log replied.session) replied.call time replied.reply) reply_of replies

-- what is said of reads that have their rows
pub reads_said : (log : Log) (names : List (List ℕ)) → names ≡ sessions log
    → reads_text names (reads_of log)
    ≡ flat_map (λ peek. finished_text (session_name log peek.session) peek.call peek.time (peek_rows log peek)) (pending log)
reads_said log names same =
    ap (λ known. reads_text known (reads_of log)) same
    ∙ flat_map-map (λ read. finished_text (session_name log read.session) read.call read.time read.rows) (read_of log) (pending log)
