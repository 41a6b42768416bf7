-- A turn gives all reads that wait their rows.
use Rattle.std.proofs.Common.{◌≡◌, ℕ, ◌==◌, ◌++◌, ◌||◌, cond, List, [], ◌∷◌, None, map, refl, sym, ap, subst, ◌∙◌}
use Rattle.std.specs.List.{list_any}
use Rattle.mz_plan.specs.declared.command.PendingPeek.{PendingPeek}
use Rattle.mz_log.specs.Log.{Log}
use Rattle.mz_log.specs.declared.entry.Entry.{Entry}
use Rattle.mz_log.specs.declared.entry.Entry.TheVariants.{Absorbed, Fed}
use Rattle.mz_books.specs.Holds.{pending, rest}
use Rattle.mz_books.specs.Legal.{Legal}
use Rattle.mz_books.specs.Owed.{called_for, owed}
use Rattle.mz_books.specs.Sessions.{outstanding}
use Rattle.mz_event_laws.proofs.Whole.{event_whole}
use Rattle.mz_frames.specs.Turns.{IsTurn}
use Rattle.mz_frames.proofs.TurnLeaves.{turn_begun, turn_last, turn_long, turn_made, turn_names, turn_open, turn_peeks, turn_queue, turn_read, turn_state}
use Rattle.mz_frames.proofs.Turning.{legal_before, turn_pending, turn_waits}
use Rattle.mz_script_laws.proofs.PlainLines.{plain_turn}
use Rattle.mz_kept.specs.Kept.{Kept}
use Rattle.mz_core.specs.Told.{read_of}
use Rattle.mz_kept.specs.Standing.{StandsFor}
use Rattle.mz_kept.specs.Steps.{finishing}
use Rattle.mz_kept_laws.proofs.Replying.{AllReplied, replied_at}
use Rattle.mz_kept_laws.proofs.RoundEnds.{owners_reading, readers_of}
use Rattle.mz_kept_laws.proofs.WithinRounds.{within_finishing}

-- ---- entries

-- a turn owes nothing where nothing was owed
turn_whole : (log later : Log) → IsTurn log later → owed log ≡ [] → owed later ≡ []
turn_whole log later t none =
    let fed : Log = Fed t.replica t.incarnation t.fed t.to ∷ log in
    let packet : Entry = Absorbed t.replica t.incarnation t.turn t.taken t.ready t.frontiers in
    let legal = legal_before (called_for fed packet) (packet ∷ fed) (subst Legal t.is t.legal) in
    subst (λ l. owed l ≡ []) (sym t.is) (event_whole fed packet legal.0 (ap (λ es. rest es ++ []) none) legal.1.may).none

-- ---- sessions

-- one of the numbers is that of a read's session, where one of the peeks is of that session
any_read : (log : Log) (peeks : List PendingPeek) (session : ℕ)
    → list_any (λ peek. peek.session == session) peeks ≡ list_any (λ n. n == session) (readers_of (map (read_of log) peeks))
any_read log [] session = refl
any_read log (peek ∷ peeks) session = ap (λ b. (peek.session == session) || b) (any_read log peeks session)

-- the sessions of the reads have their replies
turn_replied : (k : Kept) (log later : Log) → StandsFor k log → IsTurn log later → AllReplied (readers_of k.reads) log later
turn_replied k log later s t = record {
  names = turn_names log later t;
  made = turn_made log later t;
  waits = λ session.
      turn_waits log later t session
      ∙ ap (λ b. cond b None (outstanding log session))
      (any_read log (pending log) session ∙ ap (λ reads. list_any (λ n. n == session) (readers_of reads)) (sym s.reads.reads));
  long = turn_long log later t;
}

-- ---- the log

-- the log after a turn is stood for
pub turn_stands : (k : Kept) (log later : Log) → StandsFor k log → IsTurn log later → StandsFor (finishing (readers_of k.reads) k) later
turn_stands k log later s t =
    let owners = owners_reading k s.within in
    let replied = turn_replied k log later s t in record {
      legal = t.legal;
      whole = turn_whole log later t s.whole;
      plain = plain_turn log later t s.plain;
      sessions = record {
        names = s.sessions.names ∙ sym replied.names;
        each = replied_at (readers_of k.reads) k log later s.within owners s.sessions replied;
        calls = s.sessions.calls ∙ sym replied.long;
      };
      rounds = record {
        read = s.rounds.read ∙ sym (turn_read log later t);
        last = s.rounds.last ∙ sym (turn_last log later t);
        begun = s.rounds.begun ∙ sym (turn_begun log later t);
        open_round = s.rounds.open_round ∙ sym (turn_open log later t);
        queued = s.rounds.queued ∙ sym (turn_queue log later t);
      };
      state = s.state ∙ sym (turn_state log later t);
      reads = record {
        reads = sym (ap (map (read_of later)) (turn_pending log later t));
        peeks = s.reads.peeks ∙ sym (turn_peeks log later t);
      };
      within = within_finishing (readers_of k.reads) k s.within owners;
    }
