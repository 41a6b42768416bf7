-- Entries that leave the place of a replica as it is.
use Rattle.std.specs.Prelude.{⊤}
use Rattle.std.proofs.Common.{◌≡◌, ℕ, ◌+◌, ◌≤◌, List, [], ◌∷◌, ◌++◌, map, filter, find, refl, ap, ◌∙◌, subst, sym, arith}
use Rattle.std.specs.List.{AllByRecursion as Each}
use Rattle.std.specs.Option.{option_map_or}
use Rattle.mz_plan.specs.declared.command.Command.TheVariants.{Peek}
use Rattle.mz_print.specs.Print.{print_of}
use Rattle.mz_refusal.specs.declared.refusal.Refusal.TheVariants.{TimeSpent}
use Rattle.mz_rules.specs.Joining.{joining}
use Rattle.mz_rules.specs.declared.capability.Hold.{Hold}
use Rattle.mz_rules.proofs.Each.{each_all, each_map}
use Rattle.mz_statement.specs.declared.statement.Statement.TheVariants.{Start, Commit}
use Rattle.mz_log.specs.declared.entry.Entry.{Entry}
use Rattle.mz_log.specs.declared.entry.Entry.TheVariants.{Apply, Read, Finish, Instant, Cancel, Close, Release, Refused, Fed, Absorbed, Join, Crash}
use Rattle.mz_log.specs.declared.stream.Stream.{Stream}
use Rattle.mz_log.specs.Log.{Log}
use Rattle.mz_books.specs.Entries.{Queued, after}
use Rattle.mz_books.specs.Given.{spent}
use Rattle.mz_books.specs.Collections.{collections}
use Rattle.mz_books.specs.Holds.{Taking, holds, holds_taken, is_of_call, is_peek, pending, takings_of}
use Rattle.mz_books.specs.Legal.{Legal}
use Rattle.mz_books.specs.Owed.{acquires, called_for, finishes, is_answered, is_owned_by, peek_rows}
use Rattle.mz_books.specs.Rounds.{read_time}
use Rattle.mz_books.specs.Since.{settled}
use Rattle.mz_books.specs.Streams.{asking_lines, ending_lines, fed, is_live_of, is_stream, joining_stream, new_lines, streams, told_more}
use Rattle.mz_call_laws.proofs.Times.{read_rises}
use Rattle.mz_script.specs.ScriptLine.{LiveReplica}
use Rattle.mz_script_laws.specs.Places.{IsPlaced}
use Rattle.mz_script_laws.proofs.FoundStreams.{Grows, find_left, find_map, grows_fed, grows_told, same_live, same_stream}

-- the entry is no packet, and no replica is lost by it
abbrev pub IsCalm : Entry → Type 0
IsCalm (Absorbed replica incarnation turn taken ready frontiers) = ⊥
IsCalm (Crash replica) = ⊥
IsCalm entry = ⊤

-- ---- one entry

-- where each stream grows, a replica is still at its place
pub placed_grown : (log longer : Log) (f : Stream → Stream) → Grows f → streams longer ≡ map f (streams log)
    → read_time log ≤ read_time longer → (replica : LiveReplica) → IsPlaced log replica → IsPlaced longer replica
placed_grown log longer f g same rises replica p =
    let own = p.own in record {
      own = f own;
      is_own = ap (find (is_stream replica.name replica.place.incarnation)) same
          ∙ find_map (is_stream replica.name replica.place.incarnation) f (same_stream f g replica.name replica.place.incarnation) (streams log) own p.is_own;
      is_live = ap (find (is_live_of replica.name)) same
          ∙ find_map (is_live_of replica.name) f (same_live f g replica.name) (streams log) own p.is_live;
      in_main = g.cluster own ∙ p.in_main;
      reported = subst (λ report. option_map_or (λ told. told.taken) report 0 ≤ replica.place.taken) (sym (g.report own)) p.reported;
      there = omega (arith, p.there, g.longer own);
      readable = omega (arith, p.readable, rises);
    }

-- so it is after each calm entry
placed_then : (log : Log) (entry : Entry) → read_time log ≤ read_time (entry ∷ log) → IsCalm entry → (replica : LiveReplica)
    → IsPlaced log replica → IsPlaced (entry ∷ log) replica
placed_then log (Apply time replies) rises calm replica p =
    let longer : Log = Apply time replies ∷ log in
    placed_grown log longer (told_more (new_lines (collections log) (collections longer)))
    (grows_told (new_lines (collections log) (collections longer))) refl rises replica p
placed_then log (Read session call peek time statement collection) rises calm replica p =
    let longer : Log = Read session call peek time statement collection ∷ log in
    let lines : ℕ → List _ = λ cluster. new_lines (collections log) (collections longer) cluster
    ++ asking_lines (collections longer) (Peek peek collection time) collection cluster in
    placed_grown log longer (told_more lines) (grows_told lines) refl rises replica p
placed_then log (Finish peek rows) rises calm replica p =
    let lines = ending_lines (collections log) (filter (is_peek peek) (pending log)) in
    placed_grown log (Finish peek rows ∷ log) (told_more lines) (grows_told lines) refl rises replica p
placed_then log (Cancel session call) rises calm replica p =
    let lines = ending_lines (collections log) (filter (is_of_call session call) (pending log)) in
    placed_grown log (Cancel session call ∷ log) (told_more lines) (grows_told lines) refl rises replica p
placed_then log (Fed name incarnation taken to) rises calm replica p =
    placed_grown log (Fed name incarnation taken to ∷ log) (fed name incarnation (settled log)) (grows_fed name incarnation (settled log)) refl
    rises replica p
placed_then log (Join name incarnation cluster) rises calm replica p =
    let new = joining_stream name incarnation cluster (joining cluster (settled log) (pending log)) in record {
      own = p.own;
      is_own = find_left (is_stream replica.name replica.place.incarnation) (streams log) (new ∷ []) p.own p.is_own;
      is_live = find_left (is_live_of replica.name) (streams log) (new ∷ []) p.own p.is_live;
      in_main = p.in_main;
      reported = p.reported;
      there = p.there;
      readable = p.readable;
    }
placed_then log (Absorbed name incarnation turn taken ready frontiers) rises calm replica p = absurd calm
placed_then log (Crash name) rises calm replica p = absurd calm
placed_then log entry rises calm replica p = record {
  own = p.own;
  is_own = p.is_own;
  is_live = p.is_live;
  in_main = p.in_main;
  reported = p.reported;
  there = p.there;
  readable = p.readable;
}

-- ---- events

-- a log was legal before its last entries
pub legal_before : (entries : List Entry) (log : Log) → Legal (after entries log) → Legal log
legal_before [] log l = l
legal_before (entry ∷ entries) log l = (legal_before entries (entry ∷ log) l).0

-- after calm entries a replica is still at its place
pub placed_after : (entries : List Entry) (log : Log) → Legal (after entries log) → Each IsCalm entries → (replica : LiveReplica)
    → IsPlaced log replica → IsPlaced (after entries log) replica
placed_after [] log l calm replica p = p
placed_after (entry ∷ entries) log l calm replica p =
    placed_after entries (entry ∷ log) l calm.1 replica
    (placed_then log entry (read_rises log (entry ∷ []) (legal_before entries (entry ∷ log) l)) calm.0 replica p)

-- finishes are calm
pub finishes_calm : (log : Log) (answers : List ℕ) → Each IsCalm (finishes log answers)
finishes_calm log answers =
    each_map (λ peek. ⊤) IsCalm (λ peek. Finish peek.peek (peek_rows log peek)) (λ peek p. tt) (filter (is_answered answers) (pending log))
    (each_all (λ peek. ⊤) (λ peek. tt) (filter (is_answered answers) (pending log)))

-- so are the holds that are taken
acquires_calm : (hold : ℕ) (takings : List Taking) → Each IsCalm (acquires hold takings)
acquires_calm hold [] = tt
acquires_calm hold (taking ∷ takings) = (tt, acquires_calm (hold + 1) takings)

-- and those that are given back
releases_calm : (session : ℕ) (hs : List Hold) → Each IsCalm (map (λ hold. Release hold.number) (filter (is_owned_by session) hs))
releases_calm session hs =
    each_map (λ hold. ⊤) IsCalm (λ hold. Release hold.number) (λ hold p. tt) (filter (is_owned_by session) hs)
    (each_all (λ hold. ⊤) (λ hold. tt) (filter (is_owned_by session) hs))

-- so all that an entry calls for is calm
pub called_calm : (log : Log) (entry : Entry) → Each IsCalm (called_for log entry)
called_calm log (Instant session call Start time) = acquires_calm (holds_taken log + 1) (takings_of session time (collections log))
called_calm log (Instant session call Commit time) = releases_calm session (holds log)
called_calm log (Close session) = releases_calm session (holds log)
called_calm log (Absorbed replica incarnation turn taken ready frontiers) = finishes_calm log _
called_calm log entry = tt

-- refusals for want of time are calm
pub spent_calm : (last : ℕ) (commands : List Queued) → Each IsCalm (spent last commands)
spent_calm last commands =
    each_map (λ c. ⊤) IsCalm (λ c. Refused c.session c.call (print_of c.statement) (TimeSpent last)) (λ c p. tt) commands
    (each_all (λ c. ⊤) (λ c. tt) commands)
