-- After a turn the replica stands at its next place, and the log agrees with that.
use Rattle.std.proofs.Common.{◌≡◌, ℕ, ◌+◌, ◌≤◌, ◌&&◌, List, [], ◌∷◌, length, Option, None, Some, refl, sym, ap, ◌∙◌, subst, arith}
use Rattle.std.specs.Option.{option_map_or}
use Rattle.std.proofs.lemmas.Bool.{cond_both}
use Rattle.mz_log.specs.declared.stream.Report.{Report}
use Rattle.mz_log.specs.declared.stream.Stream.{Stream}
use Rattle.mz_log.specs.Log.{Log}
use Rattle.mz_books.specs.GivenReplicas.{kept_taken}
use Rattle.mz_books.specs.Legal.{Legal}
use Rattle.mz_books.specs.Owed.{called_for, owed}
use Rattle.mz_books.specs.Since.{settled}
use Rattle.mz_books.specs.Streams.{fed, goes_on_from, is_live_of, is_stream, newer_report, reporting, streams}
use Rattle.mz_safe_laws.proofs.Sound.{sound, to_readable}
use Rattle.mz_script.specs.Machine.{feed_at, next_place}
use Rattle.mz_script.specs.ScriptLine.{LiveReplica}
use Rattle.mz_script_laws.specs.Places.{IsPlaced}
use Rattle.mz_script_laws.proofs.Answered.{lines_had, packet_of, turn_whole, turned_log}
use Rattle.mz_script_laws.proofs.Calm.{called_calm, placed_after}
use Rattle.mz_script_laws.proofs.Feeding.{all_lines, fed_stream, front_lines, front_of, front_stream, last_fed, may_feed}
use Rattle.mz_script_laws.proofs.FoundStreams.{find_map, grows_fed, same_live}

-- ---- a report

-- what a report leaves of a stream
same_names : (replica : List ℕ) (incarnation : ℕ) (new : Report) (s : Stream) (P : Stream → Type 0) → P s
    → P (record s { report = newer_report new s.report }) → P (reporting replica incarnation new s)
same_names replica incarnation new s P here there =
    cond_both (s.live && is_stream replica incarnation s) (record s { report = newer_report new s.report }) s P (λ e. there) (λ e. here)

-- the report that counts says of no more lines than the old one or the new one
newer_within : (new : Report) (old : Option Report) (bound : ℕ) → new.taken ≤ bound → option_map_or (λ told. told.taken) old 0 ≤ bound
    → option_map_or (λ told. told.taken) (newer_report new old) 0 ≤ bound
newer_within new None bound h k = h
newer_within new (Some old) bound h k =
    cond_both (goes_on_from new old) (Some new) (Some old) (λ told. option_map_or (λ x. x.taken) told 0 ≤ bound) (λ e. h) (λ e. k)

-- ---- the next place

-- the replica once it made its turn
abbrev pub next_replica : (log : Log) (replica : LiveReplica) → IsPlaced log replica → LiveReplica
next_replica log replica p =
    record replica { place = next_place (feed_at replica (front_of log replica p)); front = front_of log replica p }

-- the log agrees with it as soon as its packet is absorbed
placed_next : (log : Log) (replica : LiveReplica) (p : IsPlaced log replica) → Legal log
    → IsPlaced (packet_of log replica p ∷ front_of log replica p) (next_replica log replica p)
placed_next log replica p l =
    let name = replica.name in
    let inc = replica.place.incarnation in
    let had = lines_had log replica p in
    let to = last_fed log replica in
    let new : Report = record { turn = replica.place.turn; taken = had; ready = to + 1 } in
    let front = front_of log replica p in
    let told : Stream → Stream = reporting name inc new in
    let s : Stream = fed_stream log replica p in
    let grows = grows_fed name inc (settled log) in
    let all : had ≡ length s.commands = ap length (front_lines log replica p) in
    let before : option_map_or (λ x. x.taken) s.report 0 ≤ had =
    subst (λ report. option_map_or (λ x. x.taken) report 0 ≤ had) (sym (grows.report p.own)) (omega (arith, p.reported, p.there, grows.longer p.own, all)) in
    record {
      own = told s;
      is_own = find_map (is_stream name inc) told (λ x. same_names name inc new x (λ y. is_stream name inc y ≡ is_stream name inc x) refl refl)
          (streams front) s (front_stream log replica p);
      is_live = find_map (is_live_of name) told (λ x. same_names name inc new x (λ y. is_live_of name y ≡ is_live_of name x) refl refl)
          (streams front) s (find_map (is_live_of name) (fed name inc (settled log)) (same_live (fed name inc (settled log)) grows name) (streams log) p.own p.is_live);
      in_main = same_names name inc new s (λ y. y.cluster ≡ 0) (grows.cluster p.own ∙ p.in_main) (grows.cluster p.own ∙ p.in_main);
      reported = same_names name inc new s (λ y. kept_taken y ≤ had) before (newer_within new s.report had (omega arith) before);
      there = same_names name inc new s (λ y. had ≤ length y.commands) (omega (arith, all)) (omega (arith, all));
      readable = let high = to_readable log name inc (all_lines log replica p) to (sound log l).core (may_feed log replica p) in omega (arith, high);
    }

-- and still once it has finished its peeks
pub placed_turned : (log : Log) (replica : LiveReplica) (p : IsPlaced log replica) → Legal log → owed log ≡ []
    → IsPlaced (turned_log log replica p) (next_replica log replica p)
placed_turned log replica p l none =
    placed_after (called_for (front_of log replica p) (packet_of log replica p)) (packet_of log replica p ∷ front_of log replica p)
    (turn_whole log replica p l none).legal (called_calm (front_of log replica p) (packet_of log replica p)) (next_replica log replica p)
    (placed_next log replica p l)
