-- What a log gives to feeds, and to moves and releases of holds, keeps it good.
use Rattle.std.specs.Prelude.{bytes_eq, unwrap_or}
use Rattle.std.proofs.Common.{◌≡◌, ℕ, ◌+◌, ◌≤◌, ◌==◌, ◌||◌, Bool, true, false, not, List, find, length, Option, None, Some, nat_le, nat_lt, refl, ap, ◌∙◌, arith}
use Rattle.std.specs.List.{AllByRecursion as Each, list_any}
use Rattle.std.proofs.lemmas.Bool.{and_from, and_parts, eq-eqb, eqb-true, leb-true, ltb-false, or_parts}
use Rattle.std.proofs.lemmas.Slice.Eq.{bytes_eq-Decides}
use Rattle.mz_refusal.specs.declared.refusal.Refusal.TheVariants as refusal
use Rattle.mz_rules.specs.declared.capability.Hold.{Hold}
use Rattle.mz_rules.proofs.Each.{each_of}
use Rattle.mz_log.specs.declared.entry.Entry.TheVariants.{Fed, Release}
use Rattle.mz_plan.specs.declared.command.Place.{Place}
use Rattle.mz_log.specs.declared.stream.Stream.{Stream}
use Rattle.mz_log.specs.Log.{Log}
use Rattle.mz_books.specs.Entries.{after}
use Rattle.mz_books.specs.Rounds.{read_time}
use Rattle.mz_books.specs.Holds.{holds}
use Rattle.mz_books.specs.Since.{settled}
use Rattle.mz_books.specs.Streams.{fed, is_live_of, is_stream, live_stream, streams}
use Rattle.mz_books.specs.Feeds.{feed_to}
use Rattle.mz_books.specs.Legal.{IsFree, IsLive}
use Rattle.mz_books.specs.Given.{Given}
use Rattle.mz_books.specs.GivenReplicas.{FeedRefusal, downgrade_given, feed_for, feed_given, kept_taken, or_first, release_given}
use Rattle.mz_books.specs.Safe.{Good}
use Rattle.mz_call_laws.specs.Members.{Has}
use Rattle.mz_call_laws.proofs.Lists.{each_has, found}
use Rattle.mz_call_laws.proofs.Steps.{past}
use Rattle.mz_event_laws.proofs.GoodLogs.{event_good}
use Rattle.mz_event_laws.proofs.HoldsRise.{holds_rise}
use Rattle.mz_event_laws.proofs.Rising.{found_each, only_each}
use Rattle.mz_safe_laws.proofs.Incarnations.{own_found}
use Rattle.mz_safe_laws.proofs.Honest.{faithful}
use Rattle.mz_complete_laws.proofs.GivenGood.{IsEvent, step_good}

-- ---- feeds

-- past a cause
or_good : {A : Type 0} (log : Log) (cause : Bool) (refusal : FeedRefusal) (given : Given A FeedRefusal) → Good log
    → (cause ≡ false → Good (after given.entries log)) → Good (after (or_first cause refusal given).entries log)
or_good log true refusal given good next = good
or_good log false refusal given good next = next refl

-- what isn't so isn't not so
holds_then : (b : Bool) → not b ≡ false → b ≡ true
holds_then true e = refl
holds_then false e = absurd (cc)

-- a stream is found under its own names
own_stream : (log : Log) → Good log → (s : Stream) → Has s (streams log) → find (is_stream s.replica s.incarnation) (streams log) ≡ Some s
own_stream log good s there =
    each_has (λ x. is_stream s.replica s.incarnation x ≡ true → find (is_stream s.replica s.incarnation) (streams log) ≡ Some x) s (streams log)
    (own_found s.replica s.incarnation (streams log) (faithful log good.legal).known.alone) there
    (and_from (bytes_eq s.replica s.replica) (s.incarnation == s.incarnation) ((bytes_eq-Decides s.replica s.replica).1 refl)
    (eq-eqb s.incarnation s.incarnation refl))

-- a live stream is fed for a place
feed_for_good : (log : Log) (s : Stream) (place : Place) (asked : ℕ) → Good log → Has s (streams log) → s.live ≡ true
    → Good (after (feed_for log s place asked).entries log)
feed_for_good log s place asked good there live =
    or_good log (not (place.incarnation == s.incarnation)) _ _ good (λ own.
    or_good log (nat_lt place.taken (kept_taken s)) _ _ good (λ late.
    or_good log (not (nat_le place.taken (length s.commands)) || not (nat_le place.ready (read_time log + 1))) _ _ good (λ behind.
    or_good log (nat_lt (read_time log) asked) _ _ good (λ readable.
    let parts = or_parts (not (nat_le place.taken (length s.commands))) (not (nat_le place.ready (read_time log + 1))) behind in
    event_good log (Fed s.replica s.incarnation (length (fed s.replica s.incarnation (settled log) s).commands)
    (feed_to asked place.ready (settled log))) good (record {
      own = s;
      is_own = own_stream log good s there;
      live = live;
      all_taken = refl;
      place = place;
      own_incarnation = eqb-true place.incarnation s.incarnation (holds_then (place.incarnation == s.incarnation) own);
      taken_before = leb-true place.taken (length s.commands) (holds_then (nat_le place.taken (length s.commands)) parts.0);
      ready_before = leb-true place.ready (read_time log + 1) (holds_then (nat_le place.ready (read_time log + 1)) parts.1);
      asked = asked;
      asked_readable = ltb-false (read_time log) asked readable;
      own_to = refl;
    })))))

-- where the replica has one
feed_by : (log : Log) (replica : List ℕ) (place : Place) (upto : Option ℕ) → Good log → (o : Option Stream) → live_stream log replica ≡ o
    → Good (after (feed_given log o place upto).entries log)
feed_by log replica place upto good None is = good
feed_by log replica place upto good (Some s) is =
    let own = found (is_live_of replica) (streams log) s is in
    feed_for_good log s place (unwrap_or upto (read_time log)) good own.1 (and_parts s.live (bytes_eq s.replica replica) own.0).0

pub feed_good : (log : Log) (replica : List ℕ) (place : Place) (upto : Option ℕ) → Good log
    → Good (after (feed_given log (live_stream log replica) place upto).entries log)
feed_good log replica place upto good = feed_by log replica place upto good (live_stream log replica) refl

-- ---- holds

-- a live hold is found by its number
hold_live : (log : Log) (hold : Hold) → Has hold (holds log) → IsLive log hold.number
hold_live log hold there =
    each_has (λ h. list_any (λ other. other.number == h.number) (holds log) ≡ true) hold (holds log) (found_each (λ h. h.number) (holds log)) there

-- and is the only one of it
hold_only : (log : Log) → Good log → (hold : Hold) → Has hold (holds log) → Each (λ other. other.number ≡ hold.number → other ≡ hold) (holds log)
hold_only log good hold there =
    each_has (λ h. Each (λ other. other.number ≡ h.number → other ≡ h) (holds log)) hold (holds log)
    (only_each (λ h. h.number) (holds log) (holds_rise log good.legal).rise) there

-- so one that no BEGIN took is free
hold_free : (log : Log) → Good log → (hold : Hold) → Has hold (holds log) → hold.owner ≡ None → IsFree log hold.number
hold_free log good hold there free =
    each_of (λ other. other.number ≡ hold.number → other ≡ hold) (λ other. other.number ≡ hold.number → other.owner ≡ None)
    (λ other is same. ap (λ h. h.owner) (is same) ∙ free) (holds log) (hold_only log good hold there)

-- such a hold is moved
pub downgrade_good : (log : Log) (hold : Hold) (time : ℕ) → Good log → Has hold (holds log) → hold.owner ≡ None
    → Good (after (downgrade_given log hold time).entries log)
downgrade_good log hold time good there free =
    step_good log _ good
    (past (nat_lt time hold.time) (refusal.BelowHold hold.time time) _ (IsEvent log)
    (λ forward. past (nat_lt (read_time log) time) (refusal.AfterRead time (read_time log)) _ (IsEvent log)
    (λ readable. record {
      live = hold_live log hold there;
      free = hold_free log good hold there free;
      forward = each_of (λ other. other.number ≡ hold.number → other ≡ hold) (λ other. other.number ≡ hold.number → other.time ≤ time)
          (λ other is same. let own = ap (λ h. h.time) (is same) in omega (arith, own, ltb-false time hold.time forward)) (holds log)
          (hold_only log good hold there);
      readable = ltb-false (read_time log) time readable;
    })))

-- and given back
pub release_good : (log : Log) (hold : Hold) → Good log → Has hold (holds log) → hold.owner ≡ None
    → Good (after (release_given log hold.number).entries log)
release_good log hold good there free =
    event_good log (Release hold.number) good
    (record { live = hold_live log hold there; free = λ none. hold_free log good hold there free })
