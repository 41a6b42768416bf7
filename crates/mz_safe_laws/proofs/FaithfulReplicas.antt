-- What feeds, packets, joinings and losses keep of faithful streams.
use Rattle.std.specs.Prelude.{bytes_eq}
use Rattle.std.proofs.Common.{◌≡◌, ℕ, ◌+◌, ◌≤◌, ◌&&◌, Bool, true, false, List, [], ◌∷◌, ◌++◌, length, find, Option, Some, refl, sym, ◌∙◌, subst, inl, inr, arith}
use Rattle.std.specs.List.{AllByRecursion as Each}
use Rattle.std.proofs.lemmas.Bool.{and_parts, cases_Bool, cond-false, cond-true, cond_both}
use Rattle.mz_rules.specs.Joining.{allowances, joining}
use Rattle.mz_rules.proofs.Each.{each_both, each_map, each_of, each_one}
use Rattle.mz_log.specs.declared.entry.Entry.TheVariants.{Fed, Absorbed, Join, Crash}
use Rattle.mz_log.specs.declared.stream.Report.{Report}
use Rattle.mz_log.specs.declared.stream.Stream.{Stream}
use Rattle.mz_log.specs.Log.{Log}
use Rattle.mz_books.specs.Feeds.{MadeFeed, feeds}
use Rattle.mz_books.specs.Holds.{peeks_made, pending}
use Rattle.mz_books.specs.Legal.{Legal, MayFeed}
use Rattle.mz_books.specs.Owed.{owed}
use Rattle.mz_books.specs.Since.{settled}
use Rattle.mz_books.specs.Streams.{crashed, fed, is_stream, joining_stream, newer_report, reporting, streams}
use Rattle.mz_call_laws.proofs.PendingCalls.{pending_within}
use Rattle.mz_safe_laws.proofs.PeekLines.{allowances_fit}
use Rattle.mz_safe_laws.proofs.PeekEnds.{joining_fits}
use Rattle.mz_safe_laws.proofs.Incarnations.{AreKnown, count, known_map, known_more, not_joined, own_found, own_names, same_name}
use Rattle.mz_safe_laws.proofs.Bundles.{Bundle, bundle_fed, bundle_longer, bundle_reported}
use Rattle.mz_safe_laws.proofs.Reporting.{keeps_crashed, keeps_fed, keeps_reporting, honest_report}
use Rattle.mz_safe_laws.proofs.Faithful.{IsFaithful, IsFaithfulStream, apart, untouched}

-- what is found is a member, and passes the test
found_has : {A : Type 0} (P : A → Type 0) (test : A → Bool) (found : A) (xs : List A) → Each P xs → find test xs ≡ Some found
    → P found × (test found ≡ true)
found_has P test found [] p e = absurd (cc)
found_has P test found (x ∷ xs) p e = elim (cases_Bool (test x)) [
  | inl here ↦ let same : Some x ≡ Some found = sym (cond-true _ _ _ here) ∙ e in let is : x ≡ found = cc in (subst P is p.0, subst (λ y. test y ≡ true) is here)
  | inr other ↦ found_has P test found xs p.1 (sym (cond-false _ _ _ other) ∙ e)
]

-- of two that are found
same_found : {A : Type 0} (x y : A) (o : Option A) → o ≡ Some x → o ≡ Some y → x ≡ y
same_found x y o p q = let same : Some x ≡ Some y = sym p ∙ q in cc

-- a feed: whoever is fed has joined
fed_known : (log : Log) (r : List ℕ) (i taken to : ℕ) → MayFeed log r i taken to → IsFaithful log
    → AreKnown (streams log) (record { replica = r; incarnation = i; taken = taken; to = to } ∷ feeds log)
fed_known log r i taken to may p =
    let own = found_has (λ s. s.incarnation ≤ count (streams log) s.replica) (is_stream r i) may.own (streams log) p.known.joined may.is_own in
    let names = own_names r i may.own own.1 in
    record {
      alone = p.known.alone;
      joined = p.known.joined;
      fed = (subst (λ k. i ≤ count (streams log) k) names.0 (subst (λ n. n ≤ count (streams log) may.own.replica) names.1 own.0), p.known.fed);
    }

-- and has all lines that the feed says it took
fed_lines : (log : Log) (r : List ℕ) (i taken to : ℕ) (s : Stream) → MayFeed log r i taken to
    → (is_stream r i s ≡ true → find (is_stream r i) (streams log) ≡ Some s) → is_stream r i (fed r i (settled log) s) ≡ true
    → taken ≤ length (fed r i (settled log) s).commands
fed_lines log r i taken to s may found e =
    let mine = sym (same_name (fed r i (settled log)) (keeps_fed r i (settled log)) r i s) ∙ e in
    let is : may.own ≡ s = same_found may.own s (find (is_stream r i) (streams log)) may.is_own (found mine) in
    subst (λ x. taken ≤ length (fed r i (settled log) x).commands) is (omega (arith, may.all_taken))

-- so streams stay faithful
pub fed_faithful : (log : Log) (r : List ℕ) (i taken to : ℕ) → Legal (Fed r i taken to ∷ log) → IsFaithful log → IsFaithful (Fed r i taken to ∷ log)
fed_faithful log r i taken to l p =
    let entry = Fed r i taken to in
    let feed : MadeFeed = record { replica = r; incarnation = i; taken = taken; to = to } in
    let now = owed (entry ∷ log) in
    let told : Stream → Stream = fed r i (settled log) in
    let faithful : Stream → Type 0 = Bundle (peeks_made log) (pending log) (feeds log) now in
    record {
      known = known_map told (keeps_fed r i (settled log)) (streams log) (feed ∷ feeds log) (fed_known log r i taken to l.1.may p);
      bundles = each_map (λ s. (is_stream r i s ≡ true → find (is_stream r i) (streams log) ≡ Some s) × faithful s)
          (Bundle (peeks_made log) (pending log) (feed ∷ feeds log) now) told
          (λ s both. bundle_fed (peeks_made log) (pending log) (feeds log) feed now (told s) (fed_lines log r i taken to s l.1.may both.0)
          (cond_both (is_stream r i s) (record s { commands = s.commands ++ allowances (settled log) s.commands }) s faithful
          (λ e. bundle_longer (peeks_made log) (pending log) (feeds log) now (allowances (settled log) s.commands) s
          (allowances_fit (peeks_made log) (pending log) (settled log) s.commands) both.1) (λ e. both.1)))
          (streams log)
          (each_both (λ s. is_stream r i s ≡ true → find (is_stream r i) (streams log) ≡ Some s) faithful
          (λ s. (is_stream r i s ≡ true → find (is_stream r i) (streams log) ≡ Some s) × faithful s)
          (λ s q b. (q, b)) (streams log) (own_found r i (streams log) p.known.alone) (untouched log entry l.1.in_turn (λ k. refl) p));
    }

-- a packet: its report is honest
pub absorbed_faithful : (log : Log) (r : List ℕ) (i turn taken ready : ℕ) (frontiers : List (ℕ × ℕ))
    → Legal (Absorbed r i turn taken ready frontiers ∷ log) → IsFaithful log → IsFaithful (Absorbed r i turn taken ready frontiers ∷ log)
absorbed_faithful log r i turn taken ready frontiers l p =
    let entry = Absorbed r i turn taken ready frontiers in
    let new : Report = record { turn = turn; taken = taken; ready = ready } in
    let now = owed (entry ∷ log) in
    let faithful : Stream → Type 0 = Bundle (peeks_made log) (pending log) (feeds log) now in
    let own : Stream → Type 0 = λ s. (is_stream r i s ≡ true → find (is_stream r i) (streams log) ≡ Some s) × IsFaithfulStream log (owed log) s in
    record {
      known = known_map (reporting r i new) (keeps_reporting r i new) (streams log) (feeds log) p.known;
      bundles = each_map (λ s. own s × faithful s) faithful (reporting r i new)
          (λ s all. cond_both (s.live && is_stream r i s) (record s { report = newer_report new s.report }) s faithful
          (λ e. let mine = (and_parts s.live (is_stream r i s) e).1 in
          bundle_reported (peeks_made log) (pending log) (feeds log) now new s
          (honest_report log r i turn taken ready frontiers l.1.may.of_feed s mine (all.0.0 mine) all.0.1) all.1) (λ e. all.1))
          (streams log)
          (each_both own faithful (λ s. own s × faithful s) (λ s q b. (q, b)) (streams log)
          (each_both (λ s. is_stream r i s ≡ true → find (is_stream r i) (streams log) ≡ Some s) (IsFaithfulStream log (owed log)) own
          (λ s q b. (q, b)) (streams log) (own_found r i (streams log) p.known.alone) p.bundles)
          (untouched log entry l.1.in_turn (λ k. refl) p));
    }

-- a joining: no feed was made for the new incarnation
pub join_faithful : (log : Log) (r : List ℕ) (i cluster : ℕ) → Legal (Join r i cluster ∷ log) → IsFaithful log → IsFaithful (Join r i cluster ∷ log)
join_faithful log r i cluster l p =
    let entry = Join r i cluster in
    let lines = joining cluster (settled log) (pending log) in
    let new : Stream = joining_stream r i cluster lines in
    let next : i ≡ count (streams log) r + 1 = l.1.may.next_incarnation in
    record {
      known = known_more new (streams log) (feeds log) next p.known;
      bundles = each_one (IsFaithfulStream log (owed (entry ∷ log))) (streams log) new (untouched log entry l.1.in_turn (λ k. refl) p) (record {
        fits = joining_fits (peeks_made log) cluster (settled log) (pending log) (pending_within log l.0) (apart log l.0);
        fed = each_of (λ f. f.incarnation ≤ count (streams log) f.replica)
            (λ f. is_stream f.replica f.incarnation new ≡ true → f.taken ≤ length lines)
            (λ f h e. let names = own_names f.replica f.incarnation new e in
            absurd (not_joined (streams log) new next f.replica f.incarnation h (sym names.0) (sym names.1))) (feeds log) p.known.fed;
        report = tt;
      });
    }

-- a loss
pub crash_faithful : (log : Log) (r : List ℕ) → Legal (Crash r ∷ log) → IsFaithful log → IsFaithful (Crash r ∷ log)
crash_faithful log r l p =
    let faithful = IsFaithfulStream log (owed (Crash r ∷ log)) in
    record {
      known = known_map (crashed r) (keeps_crashed r) (streams log) (feeds log) p.known;
      bundles = each_map faithful faithful (crashed r)
          (λ s b. cond_both (bytes_eq s.replica r) (record s { live = false }) s faithful
          (λ e. record { fits = b.fits; fed = b.fed; report = b.report }) (λ e. b))
          (streams log) (untouched log (Crash r) l.1.in_turn (λ k. refl) p);
    }
