-- A replica at its place may be fed, and takes all lines of its stream with the feed.
use Rattle.std.specs.Prelude.{bytes_eq}
use Rattle.std.proofs.Common.{◌≡◌, ℕ, ◌+◌, ◌==◌, ◌||◌, Bool, true, false, not, List, [], ◌∷◌, ◌++◌, length, find, None, Some, nat_le, nat_lt, refl, sym, ap, ◌∙◌, subst, arith}
use Rattle.std.proofs.lemmas.Bool.{and_parts, eq-eqb, false≢true, le-leb, not_from_true, or_from}
use Rattle.mz_plan.specs.declared.command.Place.{Place}
use Rattle.mz_log.specs.declared.entry.Entry.{Entry}
use Rattle.mz_log.specs.declared.entry.Entry.TheVariants.{Fed}
use Rattle.mz_log.specs.declared.stream.Stream.{Stream}
use Rattle.mz_log.specs.Log.{Log}
use Rattle.mz_books.specs.Feeds.{feed_to}
use Rattle.mz_books.specs.Given.{Given, gives}
use Rattle.mz_books.specs.GivenReplicas.{AfterRead, Ahead, Behind, FeedRefusal, OldIncarnation, fed_to, feed_for, feed_given, kept_taken, or_first}
use Rattle.mz_books.specs.Legal.{Legal, MayFeed}
use Rattle.mz_books.specs.Owed.{IsInTurn, owed}
use Rattle.mz_books.specs.Holds.{rest}
use Rattle.mz_books.specs.Rounds.{read_time}
use Rattle.mz_books.specs.Since.{settled}
use Rattle.mz_books.specs.Streams.{fed, is_live_of, is_stream, live_stream, stream_of, streams, lines_in}
use Rattle.mz_call_laws.proofs.Lists.{found}
use Rattle.mz_safe_laws.proofs.Incarnations.{own_names}
use Rattle.mz_script.specs.ScriptLine.{LiveReplica}
use Rattle.mz_script_laws.specs.Places.{IsPlaced}
use Rattle.mz_script_laws.proofs.FoundStreams.{find_map, grows_fed, same_stream}
use Rattle.mz_script_laws.proofs.PlainAnswers.{not_below}

-- ---- a replica at its place

-- its stream has its name and its incarnation
names : (log : Log) (replica : LiveReplica) (p : IsPlaced log replica)
    → (p.own.replica ≡ replica.name) × (p.own.incarnation ≡ replica.place.incarnation)
names log replica p =
    own_names replica.name replica.place.incarnation p.own
    (found (is_stream replica.name replica.place.incarnation) (streams log) p.own p.is_own).0

-- and is live
pub is_alive : (log : Log) (replica : LiveReplica) (p : IsPlaced log replica) → p.own.live ≡ true
is_alive log replica p =
    (and_parts p.own.live (bytes_eq p.own.replica replica.name) (found (is_live_of replica.name) (streams log) p.own p.is_live).0).0

-- ---- its feed

-- the last time that its feed has
abbrev pub last_fed : Log → LiveReplica → ℕ
last_fed log replica = feed_to (read_time log) replica.place.ready (settled log)

-- its stream once it is fed
abbrev pub fed_stream : (log : Log) (replica : LiveReplica) → IsPlaced log replica → Stream
fed_stream log replica p = fed replica.name replica.place.incarnation (settled log) p.own

-- how many lines it takes with the feed
abbrev pub all_lines : (log : Log) (replica : LiveReplica) → IsPlaced log replica → ℕ
all_lines log replica p = length (fed_stream log replica p).commands

-- the log that ends with its feed
abbrev pub front_of : (log : Log) (replica : LiveReplica) → IsPlaced log replica → Log
front_of log replica p = Fed replica.name replica.place.incarnation (all_lines log replica p) (last_fed log replica) ∷ log

-- ---- it is given

-- a cause that isn't there refuses nothing
unhindered : {A : Type 0} (cause : Bool) (refusal : FeedRefusal) (given : Given A FeedRefusal) → cause ≡ false
    → or_first cause refusal given ≡ given
unhindered true refusal given e = absurd (false≢true (sym e))
unhindered false refusal given e = refl

-- a feed for its place is refused for no cause
feed_is_given : (log : Log) (replica : LiveReplica) (p : IsPlaced log replica)
    → feed_for log p.own replica.place (read_time log) ≡ fed_to log p.own replica.place (read_time log)
feed_is_given log replica p =
    let place : Place = replica.place in
    let now = read_time log in
    let s : Stream = p.own in
    let own : (place.incarnation == s.incarnation) ≡ true = eq-eqb place.incarnation s.incarnation (sym (names log replica p).1) in
    unhindered (not (place.incarnation == s.incarnation)) (OldIncarnation s.incarnation place.incarnation) _ (not_from_true _ own)
    ∙ (unhindered (nat_lt place.taken (kept_taken s)) (Behind (kept_taken s) place.taken) _ (not_below place.taken (kept_taken s) p.reported)
    ∙ (unhindered (not (nat_le place.taken (length s.commands)) || not (nat_le place.ready (now + 1))) (Ahead (length s.commands) now place) _
    (or_from (not (nat_le place.taken (length s.commands))) (not (nat_le place.ready (now + 1)))
    (not_from_true _ (le-leb place.taken (length s.commands) p.there)) (not_from_true _ (le-leb place.ready (now + 1) p.readable)))
    ∙ unhindered (nat_lt now now) (AfterRead now now) _ (not_below now now (omega arith))))

-- what a feed for a stream is, by the names of that
abbrev given_for : Log → LiveReplica → Stream → List ℕ → ℕ → Given ℕ FeedRefusal
given_for log replica s name incarnation =
    gives log (Fed name incarnation (length (fed name incarnation (settled log) s).commands) (last_fed log replica)) (last_fed log replica)

-- the log gives its feed
pub feeds_own : (log : Log) (replica : LiveReplica) (p : IsPlaced log replica)
    → feed_given log (live_stream log replica.name) replica.place None
    ≡ gives log (Fed replica.name replica.place.incarnation (all_lines log replica p) (last_fed log replica)) (last_fed log replica)
feeds_own log replica p =
    let own = names log replica p in
    ap (λ s. feed_given log s replica.place None) p.is_live
    ∙ (feed_is_given log replica p
    ∙ (ap (λ name. given_for log replica p.own name p.own.incarnation) own.0 ∙ ap (λ i. given_for log replica p.own replica.name i) own.1))

-- ---- it may follow

-- the feed may follow
pub may_feed : (log : Log) (replica : LiveReplica) (p : IsPlaced log replica)
    → MayFeed log replica.name replica.place.incarnation (all_lines log replica p) (last_fed log replica)
may_feed log replica p = record {
  own = p.own;
  is_own = p.is_own;
  live = is_alive log replica p;
  all_taken = refl;
  place = replica.place;
  own_incarnation = refl;
  taken_before = p.there;
  ready_before = p.readable;
  asked = read_time log;
  asked_readable = omega arith;
  own_to = refl;
}

-- so the log that ends with it is legal
pub front_legal : (log : Log) (replica : LiveReplica) (p : IsPlaced log replica) → Legal log → owed log ≡ []
    → Legal (front_of log replica p)
front_legal log replica p l none =
    let feed : Entry = Fed replica.name replica.place.incarnation (all_lines log replica p) (last_fed log replica) in
    (l, record { may = may_feed log replica p; in_turn = subst (λ es. IsInTurn es feed) (sym none) tt })

-- and owes nothing
pub front_owes : (log : Log) (replica : LiveReplica) (p : IsPlaced log replica) → owed log ≡ [] → owed (front_of log replica p) ≡ []
front_owes log replica p none = ap (λ es. rest es ++ []) none

-- ---- what is told

-- the stream is found there
pub front_stream : (log : Log) (replica : LiveReplica) (p : IsPlaced log replica)
    → find (is_stream replica.name replica.place.incarnation) (streams (front_of log replica p)) ≡ Some (fed_stream log replica p)
front_stream log replica p =
    let grown = fed replica.name replica.place.incarnation (settled log) in
    find_map (is_stream replica.name replica.place.incarnation) grown
    (same_stream grown (grows_fed replica.name replica.place.incarnation (settled log)) replica.name replica.place.incarnation)
    (streams log) p.own p.is_own

-- and so are its lines
pub front_lines : (log : Log) (replica : LiveReplica) (p : IsPlaced log replica)
    → stream_of (front_of log replica p) replica.name replica.place.incarnation ≡ (fed_stream log replica p).commands
front_lines log replica p = ap lines_in (front_stream log replica p)
