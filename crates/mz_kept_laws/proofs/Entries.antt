-- What is kept stands for the log with one entry more: a command that is queued, a call that is refused, a session that is opened.
use Rattle.std.proofs.Common.{◌≡◌, ℕ, ◌+◌, ◌<◌, true, false, List, [], ◌∷◌, ◌++◌, None, length, map, sym, ap, ◌∙◌}
use Rattle.std.proofs.lemmas.List.{append_assoc, map_push}
use Rattle.mz_refusal.specs.declared.refusal.Refusal.{Refusal}
use Rattle.mz_statement.specs.declared.statement.Statement.{Statement}
use Rattle.mz_oracle.specs.Rounds.{all_items, round_items}
use Rattle.mz_log.specs.Log.{Log}
use Rattle.mz_log.specs.declared.entry.Entry.{Entry}
use Rattle.mz_log.specs.declared.entry.Entry.TheVariants.{Opened, Queue, Refused}
use Rattle.mz_books.specs.Answer.{most_calls}
use Rattle.mz_books.specs.Calls.{calls}
use Rattle.mz_books.specs.Entries.{Queued}
use Rattle.mz_books.specs.Legal.{MayFollow}
use Rattle.mz_books.specs.Owed.{event}
use Rattle.mz_books.specs.Rounds.{queued}
use Rattle.mz_books.specs.Sessions.{calls_made, outstanding}
use Rattle.mz_event_laws.proofs.Whole.{IsWhole, event_whole}
use Rattle.mz_frames.proofs.Refusals.{refused_queue}
use Rattle.mz_kept.specs.Kept.{Kept}
use Rattle.mz_core.specs.Told.{command_of, IsNumberOf}
use Rattle.mz_kept.specs.Standing.{HasRounds, StandsFor}
use Rattle.mz_kept.specs.Steps.{calling, next_call, opened, queueing}
use Rattle.mz_kept.specs.Taken.{waiting_of}
use Rattle.mz_kept_laws.proofs.Calling.{called_sessions, next_number, queue_called, refused_called}
use Rattle.mz_kept_laws.proofs.SessionPlaces.{at_push}
use Rattle.mz_kept_laws.proofs.WithinCalls.{within_calling, within_opened, within_queueing}

-- ---- a command

-- the commands that are kept are those of the log, with the new one behind
queued_more : (k : Kept) (log : Log) (session : ℕ) (statement : Statement) → HasRounds k log
    → next_call k session ≡ calls_made log session + 1
    → map command_of (all_items (queueing (waiting_of k session statement) k).rounds)
    ≡ queued log ++ record { session = session; call = calls_made log session + 1; statement = statement } ∷ []
queued_more k log session statement r number =
    let command : ℕ → Queued = λ call. record { session = session; call = call; statement = statement } in
    ap (map command_of) (sym (append_assoc (round_items k.rounds) k.rounds.queued (waiting_of k session statement ∷ [])))
    ∙ (map_push command_of (all_items k.rounds) (waiting_of k session statement)
    ∙ (ap (λ commands. commands ++ command (next_call k session) ∷ []) r.queued ∙ ap (λ call. queued log ++ command call ∷ []) number))

-- so the log with it is stood for
pub queue_stands : (k : Kept) (log : Log) (session : ℕ) (statement : Statement) → StandsFor k log → IsNumberOf (length k.names) session
    → k.calls < most_calls → MayFollow log (Queue session (calls_made log session + 1) statement)
    → StandsFor (queueing (waiting_of k session statement) k) (Queue session (calls_made log session + 1) statement ∷ log)
queue_stands k log session statement s number room may =
    let entry : Entry = Queue session (calls_made log session + 1) statement in
    let whole : IsWhole (event log entry) = event_whole log entry s.legal s.whole may in
    let held = called_sessions true session k log (entry ∷ log) s.within number s.sessions (queue_called log session statement whole.legal) in
    record {
      legal = whole.legal;
      whole = whole.none;
      plain = (tt, s.plain);
      sessions = record { names = held.names; each = held.each; calls = held.calls };
      rounds = record {
        read = s.rounds.read;
        last = s.rounds.last;
        begun = s.rounds.begun;
        open_round = s.rounds.open_round;
        queued = queued_more k log session statement s.rounds (next_number k log session (length k.names) number s.sessions);
      };
      state = s.state;
      reads = record { reads = s.reads.reads; peeks = s.reads.peeks };
      within = within_queueing (waiting_of k session statement) k s.within number room;
    }

-- ---- a refusal

-- a call is refused as it is submitted
pub refused_stands : (k : Kept) (log : Log) (session : ℕ) (text : List ℕ) (why : Refusal) → StandsFor k log → IsNumberOf (length k.names) session
    → k.calls < most_calls → outstanding log session ≡ None → MayFollow log (Refused session (calls_made log session + 1) text why)
    → StandsFor (calling false session k) (Refused session (calls_made log session + 1) text why ∷ log)
refused_stands k log session text why s number room none may =
    let entry : Entry = Refused session (calls_made log session + 1) text why in
    let whole : IsWhole (event log entry) = event_whole log entry s.legal s.whole may in record {
      legal = whole.legal;
      whole = whole.none;
      plain = (tt, s.plain);
      sessions = called_sessions false session k log (entry ∷ log) s.within number s.sessions
          (refused_called log session text why whole.legal none);
      rounds = record {
        read = s.rounds.read;
        last = s.rounds.last;
        begun = s.rounds.begun;
        open_round = s.rounds.open_round;
        queued = s.rounds.queued ∙ sym (refused_queue log session (calls_made log session + 1) text why none);
      };
      state = s.state;
      reads = record { reads = s.reads.reads; peeks = s.reads.peeks };
      within = within_calling false session k s.within number room;
    }

-- ---- a session

-- a session is opened
pub open_stands : (k : Kept) (log : Log) (name : List ℕ) → StandsFor k log → MayFollow log (Opened name)
    → StandsFor (opened name k) (Opened name ∷ log)
open_stands k log name s may =
    let whole : IsWhole (event log (Opened name)) = event_whole log (Opened name) s.legal s.whole may in record {
      legal = whole.legal;
      whole = whole.none;
      plain = (tt, s.plain);
      sessions = record {
        names = ap (λ names. names ++ name ∷ []) s.sessions.names;
        each = λ place. at_push k.sessions place ∙ s.sessions.each place;
        calls = s.sessions.calls;
      };
      rounds = record {
        read = s.rounds.read;
        last = s.rounds.last;
        begun = s.rounds.begun;
        open_round = s.rounds.open_round;
        queued = s.rounds.queued;
      };
      state = s.state;
      reads = record { reads = s.reads.reads; peeks = s.reads.peeks };
      within = within_opened name k s.within;
    }
