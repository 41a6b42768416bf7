-- A packet that was made at its feed may be absorbed at each longer log, and answers the same there.
use Rattle.std.proofs.Common.{◌≡◌, ℕ, ◌+◌, ◌≤◌, Bool, true, false, List, [], ◌∷◌, ◌++◌, length, find, map, take, Some, inl, inr, refl, sym, ap, ◌∙◌, arith}
use Rattle.std.specs.List.{AllByRecursion as Each, list_any}
use Rattle.std.proofs.lemmas.Bool.{and_from, cases_Bool, cond-false, cond-true, eq-eqb, or_left, or_right}
use Rattle.std.proofs.lemmas.Slice.Eq.{bytes_eq-Decides}
use Rattle.mz_time.specs.declared.frontier.Frontier.{Frontier}
use Rattle.mz_time.specs.declared.frontier.Frontier.TheVariants.{At, Done}
use Rattle.mz_rules.specs.Frontiers.{IsWithin}
use Rattle.mz_rules.specs.Joining.{is_table}
use Rattle.mz_rules.specs.declared.capability.Settled.{Settled}
use Rattle.mz_log.specs.declared.entry.Entry.{Entry}
use Rattle.mz_log.specs.declared.entry.Entry.TheVariants.{Fed}
use Rattle.mz_log.specs.declared.stream.Stream.{Stream}
use Rattle.mz_log.specs.Log.{Log}
use Rattle.mz_books.specs.Rounds.{read_time}
use Rattle.mz_books.specs.Since.{settled}
use Rattle.mz_books.specs.Streams.{fed, is_stream, lines_in, stream_of, streams}
use Rattle.mz_books.specs.Feeds.{feeds, greatest_table, is_feed, or_since, packet_answers, packet_frontiers}
use Rattle.mz_books.specs.Owed.{answers_of}
use Rattle.mz_books.specs.Legal.{Legal, MayAbsorb, MayFeed}
use Rattle.mz_safe_laws.proofs.Incarnations.{same_name}
use Rattle.mz_safe_laws.proofs.Reporting.{keeps_fed}
use Rattle.mz_safe_laws.proofs.Sound.{sound, to_readable}
use Rattle.mz_stream_laws.proofs.Grows.{first_stay}

-- ---- a feed

-- an earlier log of a legal one is legal
pub earlier : (log later : Log) → Legal (later ++ log) → Legal log
earlier log [] l = l
earlier log (entry ∷ later) l = earlier log later l.0

-- the lines of the stream that is fed
found_fed : (r : List ℕ) (i : ℕ) (all : List Settled) (own : Stream) (ss : List Stream) → find (is_stream r i) ss ≡ Some own
    → lines_in (find (is_stream r i) (map (fed r i all) ss)) ≡ (fed r i all own).commands
found_fed r i all own [] e = absurd (cc)
found_fed r i all own (s ∷ ss) e =
    let named = same_name (fed r i all) (keeps_fed r i all) r i s in
    elim (cases_Bool (is_stream r i s)) [
      | inl mine ↦
          let same : Some s ≡ Some own = sym (cond-true _ _ _ mine) ∙ e in
          let it : s ≡ own = cc in
          ap lines_in (cond-true _ _ _ (named ∙ mine)) ∙ ap (λ x. (fed r i all x).commands) it
      | inr other ↦ ap lines_in (cond-false _ _ _ (named ∙ other)) ∙ found_fed r i all own ss (sym (cond-false _ _ _ other) ∙ e)
    ]

-- a feed says how many lines the stream has
pub fed_length : (log : Log) (r : List ℕ) (i taken to : ℕ) → MayFeed log r i taken to → taken ≡ length (stream_of (Fed r i taken to ∷ log) r i)
fed_length log r i taken to may = may.all_taken ∙ sym (ap length (found_fed r i (settled log) may.own (streams log) may.is_own))

-- it reaches the since of each table that isn't done
tables_within : (to : ℕ) (ss : List Settled) → greatest_table ss ≤ to → Each (λ s. is_table s.collection.kind ≡ true → IsWithin to s.since) ss
tables_within to [] h = tt
tables_within to (s ∷ ss) h = one (is_table s.collection.kind) s.since (tables_within to ss) h
  where
    one : (table : Bool) (since : Frontier)
        → (greatest_table ss ≤ to → Each (λ s. is_table s.collection.kind ≡ true → IsWithin to s.since) ss)
        → or_since table since (greatest_table ss) ≤ to
        → (table ≡ true → IsWithin to since) × Each (λ s. is_table s.collection.kind ≡ true → IsWithin to s.since) ss
    one true (At time) rest k = ((λ _. omega (arith, k)), rest (omega (arith, k)))
    one true Done rest k = ((λ _. tt), rest k)
    one false since rest k = ((λ e. absurd (cc)), rest k)

pub fed_far : (log : Log) (r : List ℕ) (i taken to : ℕ) → Legal (Fed r i taken to ∷ log)
    → Each (λ s. is_table s.collection.kind ≡ true → IsWithin to s.since) (settled log)
fed_far log r i taken to l = let own = l.1.may.own_to in tables_within to (settled log) (omega (arith, own))

-- and its last time may be read
pub fed_readable : (log : Log) (r : List ℕ) (i taken to : ℕ) → Legal (Fed r i taken to ∷ log) → to ≤ read_time log
fed_readable log r i taken to l = to_readable log r i taken to (sound log l.0).core l.1.may

-- ---- its packet

-- a feed stays among the feeds
fed_on : (log : Log) (entry : Entry) (r : List ℕ) (i taken ready : ℕ) → list_any (is_feed r i taken ready) (feeds log) ≡ true
    → list_any (is_feed r i taken ready) (feeds (entry ∷ log)) ≡ true
fed_on log (Fed replica incarnation n to) r i taken ready p = or_right _ (list_any (is_feed r i taken ready) (feeds log)) p
fed_on log entry r i taken ready p = p

-- so it is one of them in each longer log
fed_still : (log later : Log) (r : List ℕ) (i taken to : ℕ)
    → list_any (is_feed r i taken (to + 1)) (feeds (later ++ (Fed r i taken to ∷ log))) ≡ true
fed_still log [] r i taken to =
    or_left (is_feed r i taken (to + 1) (record { replica = r; incarnation = i; taken = taken; to = to }))
    (list_any (is_feed r i taken (to + 1)) (feeds log))
    (and_from _ _ (and_from _ _ ((bytes_eq-Decides r r).1 refl) (eq-eqb i i refl))
    (and_from _ _ (eq-eqb taken taken refl) (eq-eqb (to + 1) (to + 1) refl)))
fed_still log (entry ∷ later) r i taken to =
    fed_on (later ++ (Fed r i taken to ∷ log)) entry r i taken (to + 1) (fed_still log later r i taken to)

-- the lines that it took are those of its front
front_lines : (log later : Log) (r : List ℕ) (i taken to : ℕ) → Legal (later ++ (Fed r i taken to ∷ log))
    → take taken (stream_of (later ++ (Fed r i taken to ∷ log)) r i) ≡ stream_of (Fed r i taken to ∷ log) r i
front_lines log later r i taken to l =
    let front = Fed r i taken to ∷ log in
    ap (λ n. take n (stream_of (later ++ front) r i)) (fed_length log r i taken to (earlier front later l).1.may) ∙ first_stay front later r i

-- what a replica makes of the log at its feed may be absorbed at each longer log
pub may_absorb : (log later : Log) (r : List ℕ) (i taken to : ℕ) → Legal (later ++ (Fed r i taken to ∷ log))
    → MayAbsorb (later ++ (Fed r i taken to ∷ log)) r i taken (to + 1) (packet_frontiers (stream_of (Fed r i taken to ∷ log) r i) (to + 1))
may_absorb log later r i taken to l = record {
  of_feed = fed_still log later r i taken to;
  own_frontiers = ap (λ lines. packet_frontiers lines (to + 1)) (sym (front_lines log later r i taken to l));
}

-- and it answers there the peeks that it answers in that log
pub same_answers : (log later : Log) (r : List ℕ) (i taken to : ℕ) → Legal (later ++ (Fed r i taken to ∷ log))
    → answers_of (later ++ (Fed r i taken to ∷ log)) r i taken (to + 1) ≡ packet_answers (stream_of (Fed r i taken to ∷ log) r i) (to + 1)
same_answers log later r i taken to l = ap (λ lines. packet_answers lines (to + 1)) (front_lines log later r i taken to l)
