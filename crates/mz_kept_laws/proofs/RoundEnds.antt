-- The open round of a log, and what it leaves of sessions and of the commands that wait once it is applied.
use Rattle.std.proofs.Common.{◌≡◌, ℕ, ◌==◌, ◌++◌, ◌||◌, cond, List, [], ◌∷◌, None, Some, drop, length, map, option_map, refl, sym, ap, subst, ◌∙◌}
use Rattle.std.proofs.Math.Seq.{drop-append_seam}
use Rattle.std.proofs.lemmas.List.{map-append}
use Rattle.std.specs.List.{AllByRecursion as Each, list_any}
use Rattle.std.specs.Option.{unwrap_or}
use Rattle.mz_rules.proofs.Each.{each_left, each_map, each_right}
use Rattle.mz_oracle.specs.Rounds.{round_items}
use Rattle.mz_log.specs.Log.{Log}
use Rattle.mz_log.specs.declared.entry.Entry.TheVariants.{Apply}
use Rattle.mz_log.specs.declared.entry.Replied.{Replied}
use Rattle.mz_books.specs.Clusters.{cluster_of}
use Rattle.mz_books.specs.Legal.{Legal}
use Rattle.mz_books.specs.Rounds.{Round, open_round, queued}
use Rattle.mz_books.specs.Sessions.{outstanding}
use Rattle.mz_books.specs.States.{newest_state, replies_to}
use Rattle.mz_frames.proofs.RoundEnds.{round_long, round_made, round_queue, round_waits_of}
use Rattle.mz_core.specs.declared.calls.FinishedRead.{FinishedRead}
use Rattle.mz_core.specs.declared.calls.Waiting.{Waiting}
use Rattle.mz_kept.specs.Kept.{Kept}
use Rattle.mz_core.specs.Told.{command_of, IsNumberOf}
use Rattle.mz_kept.specs.Standing.{StandsFor}
use Rattle.mz_kept.specs.Within.{IsWithin}
use Rattle.mz_kept_laws.proofs.Replying.{AllReplied}

-- ---- sessions of commands and reads

-- the numbers of the sessions of commands
abbrev pub numbers_of : List Waiting → List ℕ
numbers_of commands = map (λ command. command.session) commands

-- and of reads
abbrev pub readers_of : List FinishedRead → List ℕ
readers_of reads = map (λ read. read.session) reads

-- one of the numbers is that of a command's session, where one of the commands is of that session
pub any_command : (commands : List Waiting) (session : ℕ)
    → list_any (λ m. m.session == session) (map command_of commands) ≡ list_any (λ n. n == session) (numbers_of commands)
any_command [] session = refl
any_command (command ∷ commands) session = ap (λ b. (command.session == session) || b) (any_command commands session)

-- ---- the open round

-- the open round of a log, whose commands are these
abbrev pub round_of : Kept → List Waiting → Round
round_of k commands = record { number = k.rounds.begun; time = k.oracle.last; commands = map command_of commands }

-- it is open in the log
pub round_open : (k : Kept) (log : Log) (commands : List Waiting) → StandsFor k log → k.rounds.in_round ≡ Some commands
    → open_round log ≡ Some (round_of k commands)
round_open k log commands s some =
    sym s.rounds.open_round
    ∙ ap (option_map (λ own. record { number = k.rounds.begun; time = k.oracle.last; commands = map command_of own })) some

-- its sessions are sessions
pub owners_of : (k : Kept) (commands : List Waiting) → IsWithin k → k.rounds.in_round ≡ Some commands
    → Each (IsNumberOf (length k.names)) (numbers_of commands)
owners_of k commands w some =
    each_map (λ command. IsNumberOf (length k.names) command.session) (IsNumberOf (length k.names)) (λ command. command.session)
    (λ command number. number) commands
    (subst (λ items. Each (λ command. IsNumberOf (length k.names) command.session) (unwrap_or items [])) some
    (each_left _ (round_items k.rounds) k.rounds.queued w.commands))

-- so are those of the commands behind it
pub owners_behind : (k : Kept) → IsWithin k → Each (IsNumberOf (length k.names)) (numbers_of k.rounds.queued)
owners_behind k w =
    each_map (λ command. IsNumberOf (length k.names) command.session) (IsNumberOf (length k.names)) (λ command. command.session)
    (λ command number. number) k.rounds.queued (each_right _ (round_items k.rounds) k.rounds.queued w.commands)

-- and of reads
pub owners_reading : (k : Kept) → IsWithin k → Each (IsNumberOf (length k.names)) (readers_of k.reads)
owners_reading k w =
    each_map (λ read. IsNumberOf (length k.names) read.session) (IsNumberOf (length k.names)) (λ read. read.session)
    (λ read number. number) k.reads w.reads

-- ---- applied

-- what it replies
abbrev pub replies_in : Log → List Waiting → List Replied
replies_in log commands = replies_to (cluster_of log) (newest_state log) (map command_of commands)

-- its sessions have their replies
pub round_replied : (k : Kept) (log : Log) (commands : List Waiting) → StandsFor k log → k.rounds.in_round ≡ Some commands
    → Legal (Apply k.oracle.last (replies_in log commands) ∷ log)
    → AllReplied (numbers_of commands) log (Apply k.oracle.last (replies_in log commands) ∷ log)
round_replied k log commands s some l = record {
  names = refl;
  made = round_made log k.oracle.last (replies_in log commands);
  waits = λ session.
      round_waits_of log k.oracle.last (replies_in log commands) (round_of k commands) l (round_open k log commands s some) session
      ∙ ap (λ b. cond b None (outstanding log session)) (any_command commands session);
  long = round_long log k.oracle.last (replies_in log commands);
}

-- the commands that waited behind it wait still
pub round_left : (k : Kept) (log : Log) (commands : List Waiting) → StandsFor k log → k.rounds.in_round ≡ Some commands
    → Legal (Apply k.oracle.last (replies_in log commands) ∷ log)
    → queued (Apply k.oracle.last (replies_in log commands) ∷ log) ≡ map command_of k.rounds.queued
round_left k log commands s some l =
    let all : queued log ≡ map command_of commands ++ map command_of k.rounds.queued
    = sym s.rounds.queued ∙ ap (λ items. map command_of (unwrap_or items [] ++ k.rounds.queued)) some
    ∙ map-append command_of commands k.rounds.queued in
    round_queue log k.oracle.last (replies_in log commands) (round_of k commands) l (round_open k log commands s some)
    ∙ (ap (drop (length (map command_of commands))) all ∙ drop-append_seam (map command_of commands) (map command_of k.rounds.queued))
