-- The packet of a replica that took its feed may be absorbed, and finishes all pending peeks.
use Rattle.std.specs.Prelude.{bytes_eq}
use Rattle.std.proofs.Common.{◌≡◌, ℕ, ◌+◌, ◌==◌, ◌&&◌, true, [], length, map, filter, refl, sym, ap, ◌∙◌, arith}
use Rattle.std.specs.List.{list_any}
use Rattle.std.proofs.Math.Seq.{take-length}
use Rattle.std.proofs.lemmas.Bool.{and_from, eq-eqb, or_left}
use Rattle.std.proofs.lemmas.Slice.Eq.{bytes_eq-Decides}
use Rattle.mz_log.specs.declared.entry.Entry.{Entry}
use Rattle.mz_log.specs.declared.entry.Entry.TheVariants.{Finish, Absorbed}
use Rattle.mz_log.specs.Log.{Log}
use Rattle.mz_books.specs.Feeds.{feeds, is_feed, packet_frontiers}
use Rattle.mz_books.specs.Holds.{pending}
use Rattle.mz_books.specs.Legal.{Legal, MayAbsorb}
use Rattle.mz_books.specs.Owed.{answers_of, event, is_answered, owed, peek_rows}
use Rattle.mz_books.specs.Since.{settled}
use Rattle.mz_books.specs.Streams.{stream_of}
use Rattle.mz_frames.specs.Turns.{IsTurn}
use Rattle.mz_event_laws.proofs.Whole.{IsWhole, event_whole}
use Rattle.mz_stream_laws.proofs.Answered.{all_answered}
use Rattle.mz_script.specs.ScriptLine.{LiveReplica}
use Rattle.mz_script_laws.specs.Places.{IsPlaced}
use Rattle.mz_script_laws.proofs.Feeding.{all_lines, fed_stream, front_legal, front_lines, front_of, front_owes, front_stream, is_alive, last_fed}
use Rattle.mz_script_laws.proofs.FoundStreams.{grows_fed}

-- ---- the packet

-- how many lines of its stream the replica has
abbrev pub lines_had : (log : Log) (replica : LiveReplica) → IsPlaced log replica → ℕ
lines_had log replica p = length (stream_of (front_of log replica p) replica.name replica.place.incarnation)

-- its packet is absorbed
abbrev pub packet_of : (log : Log) (replica : LiveReplica) → IsPlaced log replica → Entry
packet_of log replica p =
    Absorbed replica.name replica.place.incarnation replica.place.turn (lines_had log replica p) (last_fed log replica + 1)
    (packet_frontiers (stream_of (front_of log replica p) replica.name replica.place.incarnation) (last_fed log replica + 1))

-- the packet comes from the feed
from_feed : (log : Log) (replica : LiveReplica) (p : IsPlaced log replica)
    → list_any (is_feed replica.name replica.place.incarnation (lines_had log replica p) (last_fed log replica + 1)) (feeds (front_of log replica p)) ≡ true
from_feed log replica p =
    let name = replica.name in
    let inc = replica.place.incarnation in
    let had = lines_had log replica p in
    let ready = last_fed log replica + 1 in
    or_left (is_feed name inc had ready (record { replica = name; incarnation = inc; taken = all_lines log replica p; to = last_fed log replica }))
    (list_any (is_feed name inc had ready) (feeds log))
    (and_from (bytes_eq name name && (inc == inc)) ((all_lines log replica p == had) && (ready == ready))
    (and_from (bytes_eq name name) (inc == inc) ((bytes_eq-Decides name name).1 refl) (eq-eqb inc inc refl))
    (and_from (all_lines log replica p == had) (ready == ready) (eq-eqb (all_lines log replica p) had (ap length (sym (front_lines log replica p))))
    (eq-eqb ready ready refl)))

-- so it may be absorbed
pub may_absorb : (log : Log) (replica : LiveReplica) (p : IsPlaced log replica)
    → MayAbsorb (front_of log replica p) replica.name replica.place.incarnation (lines_had log replica p) (last_fed log replica + 1)
    (packet_frontiers (stream_of (front_of log replica p) replica.name replica.place.incarnation) (last_fed log replica + 1))
may_absorb log replica p = record {
  of_feed = from_feed log replica p;
  own_frontiers = ap (λ lines. packet_frontiers lines (last_fed log replica + 1))
      (sym (take-length (stream_of (front_of log replica p) replica.name replica.place.incarnation)));
}

-- the log after the turn
abbrev pub turned_log : (log : Log) (replica : LiveReplica) → IsPlaced log replica → Log
turned_log log replica p = event (front_of log replica p) (packet_of log replica p)

-- it is legal, and owes nothing
pub turn_whole : (log : Log) (replica : LiveReplica) (p : IsPlaced log replica) → Legal log → owed log ≡ [] → IsWhole (turned_log log replica p)
turn_whole log replica p l none =
    event_whole (front_of log replica p) (packet_of log replica p) (front_legal log replica p l none) (front_owes log replica p none)
    (may_absorb log replica p)

-- ---- what it finishes

-- the packet answers all pending peeks
pub all_finished : (log : Log) (replica : LiveReplica) (p : IsPlaced log replica) → Legal log → owed log ≡ []
    → filter (is_answered (answers_of (front_of log replica p) replica.name replica.place.incarnation (lines_had log replica p) (last_fed log replica + 1)))
    (pending log) ≡ pending log
all_finished log replica p l none =
    let grows = grows_fed replica.name replica.place.incarnation (settled log) in
    all_answered (front_of log replica p) replica.name replica.place.incarnation (lines_had log replica p) (last_fed log replica + 1)
    (front_legal log replica p l none) (record {
      own = fed_stream log replica p;
      is_own = front_stream log replica p;
      live = grows.live p.own ∙ is_alive log replica p;
      main = grows.cluster p.own ∙ p.in_main;
      all_taken = ap length (front_lines log replica p);
    }) (omega arith)

-- so the turn is one
pub is_turn : (log : Log) (replica : LiveReplica) (p : IsPlaced log replica) → Legal log → owed log ≡ [] → IsTurn log (turned_log log replica p)
is_turn log replica p l none = record {
  replica = replica.name;
  incarnation = replica.place.incarnation;
  turn = replica.place.turn;
  fed = all_lines log replica p;
  to = last_fed log replica;
  taken = lines_had log replica p;
  ready = last_fed log replica + 1;
  frontiers = packet_frontiers (stream_of (front_of log replica p) replica.name replica.place.incarnation) (last_fed log replica + 1);
  is = refl;
  finishes_all = ap (λ peeks. map (λ peek. Finish peek.peek (peek_rows log peek)) peeks) (all_finished log replica p l none);
  legal = (turn_whole log replica p l none).legal;
}
