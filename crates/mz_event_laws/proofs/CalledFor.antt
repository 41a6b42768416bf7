-- What an entry calls for is due after it.
use Rattle.std.proofs.Common.{◌≡◌, ℕ, ◌+◌, ◌==◌, ◌&&◌, Bool, true, false, List, [], ◌∷◌, map, filter, refl, sym, ap, ◌∙◌}
use Rattle.std.specs.List.{AllByRecursion as Each, list_any}
use Rattle.std.proofs.lemmas.Bool.{and_from, cond_both, eq-eqb, or_left, or_right}
use Rattle.mz_bag.specs.Weighted.{Weighted}
use Rattle.mz_statement.specs.declared.statement.Statement.TheVariants.{Start, Commit}
use Rattle.mz_plan.specs.declared.command.PendingPeek.{PendingPeek}
use Rattle.mz_rules.specs.declared.capability.Collection.{Collection}
use Rattle.mz_rules.specs.declared.capability.Hold.{Hold}
use Rattle.mz_rules.proofs.Each.{each_both, each_filter, each_map, each_of}
use Rattle.mz_log.specs.declared.entry.Entry.{Entry}
use Rattle.mz_log.specs.declared.entry.Entry.TheVariants.{Finish, Instant, Close, Release, Absorbed}
use Rattle.mz_log.specs.Log.{Log}
use Rattle.mz_books.specs.Rounds.{read_time}
use Rattle.mz_books.specs.Collections.{collections, is_in_catalog}
use Rattle.mz_books.specs.Holds.{holds, holds_taken, pending, takings_of}
use Rattle.mz_books.specs.Owed.{acquires, answers_of, called_for, is_answered, is_owned_by, peek_rows}
use Rattle.mz_books.specs.Legal.{IsLive, Legal}
use Rattle.mz_books.specs.Safe.{finishes_it}
use Rattle.mz_call_laws.proofs.PendingCalls.{pending_rises}
use Rattle.mz_event_laws.proofs.Due.{AreDue, IsPending, IsThere, releases_it}
use Rattle.mz_event_laws.proofs.HoldsRise.{holds_rise}
use Rattle.mz_event_laws.proofs.Rising.{Rises, found_each, only_each, others}
use Rattle.mz_event_laws.proofs.Rows.{rows_same}
use Rattle.mz_event_laws.proofs.Starts.{starts_now}

-- ---- BEGIN

-- the catalog has each collection that is in it
there_each : (cs : List Collection) → Each (λ c. is_in_catalog c ≡ true → IsThere c.number cs) cs
there_each [] = tt
there_each (c ∷ cs) = (
  (λ here. or_left ((c.number == c.number) && is_in_catalog c) (list_any (λ d. (d.number == c.number) && is_in_catalog d) cs)
      (and_from (c.number == c.number) (is_in_catalog c) (eq-eqb c.number c.number refl) here)),
  each_of (λ d. is_in_catalog d ≡ true → IsThere d.number cs) (λ d. is_in_catalog d ≡ true → IsThere d.number (c ∷ cs))
      (λ d q here. or_right ((c.number == d.number) && is_in_catalog c) (list_any (λ x. (x.number == d.number) && is_in_catalog x) cs) (q here))
      cs (there_each cs),
)

-- the holds that are taken are due
acquires_due : (log : Log) (session time next : ℕ) → time ≡ read_time log → (cs : List Collection)
    → Each (λ c. is_in_catalog c ≡ true → IsThere c.number (collections log)) cs → AreDue log next (acquires next (takings_of session time cs))
acquires_due log session time next now [] p = tt
acquires_due log session time next now (c ∷ cs) p =
    cond_both (is_in_catalog c) (c ∷ filter is_in_catalog cs) (filter is_in_catalog cs)
    (λ here. AreDue log next (acquires next (map (λ d. record { session = session; collection = d.number; time = time }) here)))
    (λ here. (refl, now, p.0 here, acquires_due log session time (next + 1) now cs p.1))
    (λ _. acquires_due log session time next now cs p.1)

-- ---- COMMIT and closing

-- no release of other holds gives back a hold
none_releases : (test : Hold → Bool) (h : Hold) (hs : List Hold) → Each (λ x. (x.number == h.number) ≡ false) hs
    → Each (λ other. releases_it h.number other ≡ false) (map (λ x. Release x.number) (filter test hs))
none_releases test h hs p =
    each_map (λ x. (x.number == h.number) ≡ false) (λ other. releases_it h.number other ≡ false) (λ x. Release x.number) (λ x q. q)
    (filter test hs) (each_filter (λ x. (x.number == h.number) ≡ false) test hs p)

-- releases of live holds are due
releases_due : (log : Log) (next : ℕ) (test : Hold → Bool) (hs : List Hold) → Rises (λ h. h.number) hs → Each (λ h. IsLive log h.number) hs
    → AreDue log next (map (λ h. Release h.number) (filter test hs))
releases_due log next test [] rise live = tt
releases_due log next test (h ∷ hs) rise live =
    let later = releases_due log next test hs rise.1 live.1 in
    cond_both (test h) (h ∷ filter test hs) (filter test hs) (λ own. AreDue log next (map (λ x. Release x.number) own))
    (λ _. (live.0, none_releases test h hs (others (λ x. x.number) h hs rise.0), later)) (λ _. later)

-- ---- packets

-- the peek is pending, and these are the rows for which it waits
abbrev IsDueWith : Log → (PendingPeek → Weighted) → PendingPeek → Type 0
IsDueWith log rows peek =
    IsPending log peek.peek × Each (λ waiting. waiting.peek ≡ peek.peek → rows peek ≡ peek_rows log waiting) (pending log)

-- no finish of other peeks finishes a peek
none_finishes : (rows : PendingPeek → Weighted) (test : PendingPeek → Bool) (peek : PendingPeek) (ps : List PendingPeek)
    → Each (λ x. (x.peek == peek.peek) ≡ false) ps
    → Each (λ other. finishes_it peek.peek other ≡ false) (map (λ x. Finish x.peek (rows x)) (filter test ps))
none_finishes rows test peek ps p =
    each_map (λ x. (x.peek == peek.peek) ≡ false) (λ other. finishes_it peek.peek other ≡ false) (λ x. Finish x.peek (rows x)) (λ x q. q)
    (filter test ps) (each_filter (λ x. (x.peek == peek.peek) ≡ false) test ps p)

-- finishes of pending peeks are due
finishes_due : (log : Log) (next : ℕ) (rows : PendingPeek → Weighted) (test : PendingPeek → Bool) (ps : List PendingPeek)
    → Rises (λ p. p.peek) ps → Each (IsDueWith log rows) ps → AreDue log next (map (λ p. Finish p.peek (rows p)) (filter test ps))
finishes_due log next rows test [] rise due = tt
finishes_due log next rows test (p ∷ ps) rise due =
    let later = finishes_due log next rows test ps rise.1 due.1 in
    cond_both (test p) (p ∷ filter test ps) (filter test ps) (λ own. AreDue log next (map (λ x. Finish x.peek (rows x)) own))
    (λ _. (due.0.0, due.0.1, none_finishes rows test p ps (others (λ x. x.peek) p ps rise.0), later)) (λ _. later)

-- each peek waits for its rows still, once the packet is absorbed
still_due : (log : Log) (replica : List ℕ) (incarnation turn taken ready : ℕ) (frontiers : List (ℕ × ℕ)) → Legal log
    → Each (IsDueWith (Absorbed replica incarnation turn taken ready frontiers ∷ log) (peek_rows log)) (pending log)
still_due log replica incarnation turn taken ready frontiers l =
    let longer : Log = Absorbed replica incarnation turn taken ready frontiers ∷ log in
    each_both (λ p. IsPending log p.peek) (λ p. Each (λ w. w.peek ≡ p.peek → w ≡ p) (pending log)) (IsDueWith longer (peek_rows log))
    (λ p found only. (
      found,
      each_of (λ w. w.peek ≡ p.peek → w ≡ p) (λ w. w.peek ≡ p.peek → peek_rows log p ≡ peek_rows longer w)
          (λ w is same. ap (peek_rows log) (sym (is same)) ∙ sym (rows_same log replica incarnation turn taken ready frontiers w))
          (pending log) only,
    ))
    (pending log) (found_each (λ p. p.peek) (pending log)) (only_each (λ p. p.peek) (pending log) (pending_rises log l))

-- ---- every entry

-- what each entry calls for is due
pub called_due : (log : Log) (entry : Entry) → Legal (entry ∷ log)
    → AreDue (entry ∷ log) (holds_taken (entry ∷ log) + 1) (called_for log entry)
called_due log (Instant session call Start time) l =
    acquires_due (Instant session call Start time ∷ log) session time (holds_taken log + 1) (starts_now log session call time l.1.may)
    (collections log) (there_each (collections log))
called_due log (Instant session call Commit time) l =
    releases_due (Instant session call Commit time ∷ log) (holds_taken log + 1) (is_owned_by session) (holds log) (holds_rise log l.0).rise
    (found_each (λ h. h.number) (holds log))
called_due log (Close session) l =
    releases_due (Close session ∷ log) (holds_taken log + 1) (is_owned_by session) (holds log) (holds_rise log l.0).rise
    (found_each (λ h. h.number) (holds log))
called_due log (Absorbed replica incarnation turn taken ready frontiers) l =
    finishes_due (Absorbed replica incarnation turn taken ready frontiers ∷ log) (holds_taken log + 1) (peek_rows log)
    (is_answered (answers_of log replica incarnation taken ready)) (pending log) (pending_rises log l.0)
    (still_due log replica incarnation turn taken ready frontiers l.0)
called_due log entry l = tt
