-- What each event makes of the book of streams.
use Rattle.std.specs.Prelude.{bytes_eq}
use Rattle.std.proofs.Common.{◌≡◌, ◌≢◌, ℕ, ◌+◌, ◌==◌, ◌&&◌, Bool, true, false, List, [], ◌∷◌, ◌++◌, map, None, Some, refl, sym, ap, ◌∙◌, subst, inl, inr}
use Rattle.std.specs.List.{AllByRecursion as Each}
use Rattle.std.proofs.lemmas.Bool.{and_from, and_left, and_parts, and_right, cases_Bool, cond-false, cond-true, cond_both, eq-eqb, eqb-true, false_from_ne_true}
use Rattle.std.proofs.lemmas.Slice.Eq.{bytes_eq-Decides}
use Rattle.mz_rules.specs.Joining.{allowances, joining}
use Rattle.mz_rules.specs.declared.capability.Settled.{Settled}
use Rattle.mz_rules.proofs.Each.{each_of}
use Rattle.mz_plan.specs.declared.command.Command.{Command}
use Rattle.mz_log.specs.declared.entry.Entry.TheVariants.{Absorbed, Crash, Fed, Join}
use Rattle.mz_log.specs.declared.stream.Report.{Report}
use Rattle.mz_log.specs.declared.stream.Stream.{Stream}
use Rattle.mz_log.specs.Log.{Log}
use Rattle.mz_history.specs.Kept.{AreApart}
use Rattle.mz_history.specs.StreamBook.{LiveStream, changed_of, times_of, trimmed, trimmed_to, with_joining, without_stream}
use Rattle.mz_books.specs.Holds.{pending}
use Rattle.mz_books.specs.Legal.{Legal}
use Rattle.mz_books.specs.Since.{settled}
use Rattle.mz_books.specs.Streams.{crashed, fed, is_stream, joining_stream, live_stream, newer_report, reporting, streams, told_more}
use Rattle.mz_stream_book_laws.specs.StreamBookOf.{book_of, joined_too, kept_stream, live_ones, live_replicas, stream_book, taken_by, told_all_each, told_in_turn, told_one_each}
use Rattle.mz_stream_book_laws.proofs.Alone.{AreAlone, IsOther, IsOwn, alone, keeps_crashed, keeps_fed, keeps_reported, keeps_told, none_live, only_own}
use Rattle.mz_stream_book_laws.proofs.Joinings.{counted, joined_behind, joined_map}
use Rattle.mz_stream_book_laws.proofs.Live.{IsCarried, changed_live, live_behind, live_less, live_more, live_without, unchanged}
use Rattle.mz_stream_book_laws.proofs.Told.{all_each, by_name, in_turn, one_each, own_lines, with_lines}

-- ---- replicas that join and are lost

-- a stream that begins
abbrev pub begun_as : List ℕ → List Command → ℕ → LiveStream
begun_as replica lines incarnation = record { replica = replica; incarnation = incarnation; commands = lines; kept = 0 }

-- a replica joins
pub joins : (log : Log) (replica : List ℕ) (incarnation cluster : ℕ) → Legal (Join replica incarnation cluster ∷ log)
    → stream_book (Join replica incarnation cluster ∷ log) ≡ with_joining replica (joining cluster (settled log) (pending log))
    (stream_book log)
joins log replica incarnation cluster l =
    let lines : List Command = joining cluster (settled log) (pending log) in
    let new : Stream = joining_stream replica incarnation cluster lines in
    let times : ℕ = times_of replica (joined_too (streams log) []) in
    let next : incarnation ≡ times + 1
    = l.1.may.next_incarnation ∙ ap (λ n. n + 1) (sym (counted replica (streams log))) in
    let live : live_ones (streams log ++ (new ∷ [])) ≡ live_ones (streams log) ++ (begun_as replica lines (times + 1) ∷ [])
    = live_behind (streams log) new refl ∙ ap (λ n. live_ones (streams log) ++ (begun_as replica lines n ∷ [])) next in
    λ k. record { live = live k; joined = joined_behind new (streams log) [] k }

-- a replica is lost
pub lost : (log : Log) (replica : List ℕ) → stream_book (Crash replica ∷ log) ≡ without_stream replica (stream_book log)
lost log replica =
    let live = live_without replica (streams log) in
    let joined = joined_map (crashed replica) (keeps_crashed replica).replica (streams log) [] in
    λ k. record { live = live k; joined = joined k }

-- ---- feeds

-- what is fed to the live stream of a replica, carried to what is kept of it
fed_carried : (replica : List ℕ) (incarnation : ℕ) (sinces : List Settled) (own : Stream) → own.incarnation ≡ incarnation → (s : Stream)
    → IsOwn replica own s
    → IsCarried (fed replica incarnation sinces) (own_lines replica (allowances sinces own.commands)) s
fed_carried replica incarnation sinces own inc s is = record {
  live = cond_both (is_stream replica incarnation s) (record s { commands = s.commands ++ allowances sinces s.commands }) s (λ x. x.live
      ≡ s.live) (λ e. refl) (λ e. refl);
  same = λ live. elim (cases_Bool (bytes_eq s.replica replica)) [
    | inl mine ↦
        let same : s ≡ own = is live ((bytes_eq-Decides s.replica replica).0 mine) in
        let test : is_stream replica incarnation s ≡ true
        = and_from (bytes_eq s.replica replica) (s.incarnation == incarnation) mine (eq-eqb s.incarnation incarnation (ap
        (λ x. x.incarnation) same ∙ inc)) in
        ap kept_stream (cond-true (is_stream replica incarnation s)
        (record s { commands = s.commands ++ allowances sinces s.commands }) s test)
        ∙ ap (λ x. with_lines (allowances sinces x.commands) (kept_stream s)) same
        ∙ sym (cond-true (bytes_eq s.replica replica) (with_lines (allowances sinces own.commands) (kept_stream s)) (kept_stream s) mine)
    | inr other ↦
        let test = and_left (bytes_eq s.replica replica) (s.incarnation == incarnation) other in
        ap kept_stream (cond-false (is_stream replica incarnation s)
        (record s { commands = s.commands ++ allowances sinces s.commands }) s test)
        ∙ sym (cond-false (bytes_eq s.replica replica) (with_lines (allowances sinces own.commands) (kept_stream s)) (kept_stream s) other)
  ];
}

-- the live stream of a replica is fed
pub is_fed : (log : Log) (replica : List ℕ) (incarnation taken to : ℕ) (own : Stream) → Legal log → live_stream log replica ≡ Some own
    → own.incarnation ≡ incarnation
    → stream_book (Fed replica incarnation taken to ∷ log) ≡ told_one_each replica (allowances (settled log) own.commands) (stream_book log)
is_fed log replica incarnation taken to own l e inc =
    let f : Stream → Stream = fed replica incarnation (settled log) in
    let lines : List Command = allowances (settled log) own.commands in
    let each = each_of (IsOwn replica own) (IsCarried f (own_lines replica lines)) (fed_carried replica incarnation (settled log) own inc)
    (streams log)
    (only_own replica own (streams log) (alone log l) e) in
    let live = changed_live f (own_lines replica lines) (streams log) each in
    let joined = joined_map f (keeps_fed replica incarnation (settled log)).replica (streams log) [] in
    (λ k. record { live = live k; joined = joined k }) ∙ sym (one_each replica lines (stream_book log))

-- ---- packets

-- a report on the live stream of a replica, carried to what is kept of it
reported_carried : (replica : List ℕ) (incarnation : ℕ) (new : Report) (own : Stream) → own.incarnation ≡ incarnation → (s : Stream)
    → IsOwn replica own s
    → IsCarried (reporting replica incarnation new) (changed_of replica (trimmed_to (taken_by (newer_report new own.report)))) s
reported_carried replica incarnation new own inc s is = record {
  live = cond_both (s.live && is_stream replica incarnation s) (record s { report = newer_report new s.report }) s (λ x. x.live
      ≡ s.live) (λ e. refl) (λ e. refl);
  same = λ live. elim (cases_Bool (bytes_eq s.replica replica)) [
    | inl mine ↦
        let same : s ≡ own = is live ((bytes_eq-Decides s.replica replica).0 mine) in
        let test = and_from s.live (is_stream replica incarnation s) live
        (and_from (bytes_eq s.replica replica) (s.incarnation == incarnation) mine (eq-eqb s.incarnation incarnation (ap
        (λ x. x.incarnation) same ∙ inc))) in
        ap kept_stream (cond-true (s.live && is_stream replica incarnation s) (record s { report = newer_report new s.report }) s test)
        ∙ ap (λ x. trimmed_to (taken_by (newer_report new x.report)) (kept_stream s)) same
        ∙ sym (cond-true (bytes_eq s.replica replica) (trimmed_to (taken_by (newer_report new own.report)) (kept_stream s))
        (kept_stream s) mine)
    | inr other ↦
        let test = and_right s.live (is_stream replica incarnation s) (and_left (bytes_eq s.replica replica)
        (s.incarnation == incarnation) other) in
        ap kept_stream (cond-false (s.live && is_stream replica incarnation s) (record s { report = newer_report new s.report }) s test)
        ∙ sym (cond-false (bytes_eq s.replica replica) (trimmed_to (taken_by (newer_report new own.report)) (kept_stream s))
        (kept_stream s) other)
  ];
}

-- the live stream of a replica reports
pub is_reported : (log : Log) (replica : List ℕ) (incarnation turn taken ready : ℕ) (frontiers : List (ℕ × ℕ)) (own : Stream) → Legal log
    → live_stream log replica ≡ Some own → own.incarnation ≡ incarnation
    → stream_book (Absorbed replica incarnation turn taken ready frontiers ∷ log)
    ≡ trimmed replica (taken_by (newer_report (record { turn = turn; taken = taken; ready = ready }) own.report)) (stream_book log)
is_reported log replica incarnation turn taken ready frontiers own l e inc =
    let new : Report = record { turn = turn; taken = taken; ready = ready } in
    let g : LiveStream → LiveStream = changed_of replica (trimmed_to (taken_by (newer_report new own.report))) in
    let f : Stream → Stream = reporting replica incarnation new in
    let each = each_of (IsOwn replica own) (IsCarried f g) (reported_carried replica incarnation new own inc) (streams log)
    (only_own replica own (streams log) (alone log l) e) in
    let live = changed_live f g (streams log) each in
    let joined = joined_map f (keeps_reported replica incarnation new).replica (streams log) [] in
    λ k. record { live = live k; joined = joined k }

-- no live stream is that of the incarnation
abbrev pub IsNone : List ℕ → ℕ → Stream → Type 0
IsNone replica incarnation s = s.live ≡ true → is_stream replica incarnation s ≡ true → ⊥

-- a report of none of them, carried
none_carried : (replica : List ℕ) (incarnation : ℕ) (new : Report) (s : Stream) → IsNone replica incarnation s
    → IsCarried (reporting replica incarnation new) (λ x. x) s
none_carried replica incarnation new s none = record {
  live = cond_both (s.live && is_stream replica incarnation s) (record s { report = newer_report new s.report }) s (λ x. x.live
      ≡ s.live) (λ e. refl) (λ e. refl);
  same = λ live. ap kept_stream (cond-false (s.live && is_stream replica incarnation s) (record s { report = newer_report new s.report }) s
      (and_right s.live (is_stream replica incarnation s) (false_from_ne_true (is_stream replica incarnation s) (none live))));
}

-- such a report changes nothing
none_reported : (log : Log) (replica : List ℕ) (incarnation : ℕ) (new : Report) → Each (IsNone replica incarnation) (streams log)
    → book_of (map (reporting replica incarnation new) (streams log)) ≡ stream_book log
none_reported log replica incarnation new none =
    let f : Stream → Stream = reporting replica incarnation new in
    let each = each_of (IsNone replica incarnation) (IsCarried f (λ x. x)) (none_carried replica incarnation new) (streams log) none in
    let live = changed_live f (λ x. x) (streams log) each ∙ unchanged (live_ones (streams log)) in
    let joined = joined_map f (keeps_reported replica incarnation new).replica (streams log) [] in
    λ k. record { live = live k; joined = joined k }

-- a packet of another incarnation than the live one
pub older_reported : (log : Log) (replica : List ℕ) (incarnation turn taken ready : ℕ) (frontiers : List (ℕ × ℕ)) (own : Stream) → Legal log
    → live_stream log replica ≡ Some own → (own.incarnation ≡ incarnation → ⊥)
    → stream_book (Absorbed replica incarnation turn taken ready frontiers ∷ log) ≡ stream_book log
older_reported log replica incarnation turn taken ready frontiers own l e older =
    none_reported log replica incarnation (record { turn = turn; taken = taken; ready = ready })
    (each_of (IsOwn replica own) (IsNone replica incarnation)
    (λ s is live test.
    let parts = and_parts (bytes_eq s.replica replica) (s.incarnation == incarnation) test in
    let same : s ≡ own = is live ((bytes_eq-Decides s.replica replica).0 parts.0) in
    older (sym (ap (λ x. x.incarnation) same) ∙ eqb-true s.incarnation incarnation parts.1))
    (streams log) (only_own replica own (streams log) (alone log l) e))

-- a packet of a replica that isn't live
pub lost_reported : (log : Log) (replica : List ℕ) (incarnation turn taken ready : ℕ) (frontiers : List (ℕ × ℕ))
    → live_stream log replica ≡ None
    → stream_book (Absorbed replica incarnation turn taken ready frontiers ∷ log) ≡ stream_book log
lost_reported log replica incarnation turn taken ready frontiers e =
    none_reported log replica incarnation (record { turn = turn; taken = taken; ready = ready })
    (each_of (IsOther replica) (IsNone replica incarnation)
    (λ s other live test. other live ((bytes_eq-Decides s.replica replica).0 (and_parts (bytes_eq s.replica replica)
    (s.incarnation == incarnation) test).0))
    (streams log) (none_live replica (streams log) e))

-- ---- lines of clusters

-- no two of the live ones are of one replica
others_live : (replica : List ℕ) (ss : List Stream) → Each (IsOther replica) ss → Each (λ s. s.replica ≢ replica) (live_ones ss)
others_live replica [] p = tt
others_live replica (s ∷ ss) p = by s.live refl (others_live replica ss p.1)
  where
    by : (b : Bool) → s.live ≡ b → Each (λ x. x.replica ≢ replica) (live_ones ss) → Each (λ x. x.replica ≢ replica) (live_ones (s ∷ ss))
    by true e ih = subst (Each (λ x. x.replica ≢ replica)) (sym (live_more s ss e)) (p.0 e, ih)
    by false e ih = subst (Each (λ x. x.replica ≢ replica)) (sym (live_less s ss e)) ih

-- so they are apart, as a history has them
apart_live : (ss : List Stream) → AreAlone ss → AreApart (live_ones ss)
apart_live [] p = tt
apart_live (s ∷ ss) p = by s.live refl (apart_live ss p.1)
  where
    by : (b : Bool) → s.live ≡ b → AreApart (live_ones ss) → AreApart (live_ones (s ∷ ss))
    by true e ih = subst AreApart (sym (live_more s ss e)) (others_live s.replica ss (p.0 e), ih)
    by false e ih = subst AreApart (sym (live_less s ss e)) ih

-- what a live stream is told, carried
told_carried : (lines : ℕ → List Command) (g : LiveStream → LiveStream) (s : Stream)
    → (s.live ≡ true → with_lines (lines s.cluster) (kept_stream s) ≡ g (kept_stream s))
    → IsCarried (told_more lines) g s
told_carried lines g s h = record {
  live = cond_both s.live (record s { commands = s.commands ++ lines s.cluster }) s (λ x. x.live ≡ s.live) (λ e. refl) (λ e. refl);
  same = λ live. ap kept_stream (cond-true s.live (record s { commands = s.commands ++ lines s.cluster }) s live) ∙ h live;
}

-- where what each is told is carried, so is what all are told
told_live : (log : Log) (lines : ℕ → List Command) (g : LiveStream → LiveStream) → Each (IsCarried (told_more lines) g) (streams log)
    → book_of (map (told_more lines) (streams log)) ≡ record (stream_book log) { live = map g (live_ones (streams log)) }
told_live log lines g each =
    let live = changed_live (told_more lines) g (streams log) each in
    let joined = joined_map (told_more lines) (keeps_told lines).replica (streams log) [] in
    λ k. record { live = live k; joined = joined k }

-- each live replica in turn is told the lines of its cluster
pub are_told : (log : Log) (lines : ℕ → List Command) (cluster : List ℕ → ℕ) → Legal log
    → Each (λ s. s.live ≡ true → s.cluster ≡ cluster s.replica) (streams log)
    → book_of (map (told_more lines) (streams log)) ≡ told_in_turn (λ replica. lines (cluster replica)) (live_replicas (stream_book log))
    (stream_book log)
are_told log lines cluster l p =
    let by : List ℕ → List Command = λ replica. lines (cluster replica) in
    told_live log lines (by_name by)
    (each_of (λ s. s.live ≡ true → s.cluster ≡ cluster s.replica) (IsCarried (told_more lines) (by_name by))
    (λ s h. told_carried lines (by_name by) s (λ live. ap (λ c. with_lines (lines c) (kept_stream s)) (h live))) (streams log) p)
    ∙ sym (in_turn by (joined_too (streams log) []) (live_ones (streams log)) (apart_live (streams log) (alone log l)))

-- all are told the same lines
pub are_told_alike : (log : Log) (lines : ℕ → List Command) (same : List Command)
    → Each (λ s. s.live ≡ true → lines s.cluster ≡ same) (streams log)
    → book_of (map (told_more lines) (streams log)) ≡ told_all_each same (stream_book log)
are_told_alike log lines same p =
    told_live log lines (with_lines same)
    (each_of (λ s. s.live ≡ true → lines s.cluster ≡ same) (IsCarried (told_more lines) (with_lines same))
    (λ s h. told_carried lines (with_lines same) s (λ live. ap (λ ls. with_lines ls (kept_stream s)) (h live))) (streams log) p)
    ∙ sym (all_each same (stream_book log))
