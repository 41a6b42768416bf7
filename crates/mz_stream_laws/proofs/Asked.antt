-- Each live stream asks for each pending peek on a collection that its cluster makes.
use Rattle.std.specs.Prelude.{bytes_eq}
use Rattle.std.proofs.Common.{◌≡◌, ℕ, ◌≤◌, ◌==◌, ◌&&◌, ◌||◌, Bool, true, false, not, List, [], ◌∷◌, ◌++◌, length, filter, map, inl, inr, refl, sym, ap, ◌∙◌}
use Rattle.std.specs.List.{AllByRecursion as Each, list_any}
use Rattle.std.proofs.lemmas.Bool.{cond-true, cond_both, eq-eqb, false≢true, or_cases, or_left, or_right}
use Rattle.mz_statement.specs.declared.statement.Statement.TheVariants.{Retain}
use Rattle.mz_plan.specs.declared.command.Command.{Command}
use Rattle.mz_plan.specs.declared.command.Command.TheVariants.{Create, Allow, Peek, Retire}
use Rattle.mz_plan.specs.declared.command.PendingPeek.{PendingPeek}
use Rattle.mz_rules.specs.Capabilities.{Capability, of_hold, of_peek}
use Rattle.mz_rules.specs.Joining.{allowances, ask, is_made_in, is_read_in, joining}
use Rattle.mz_rules.specs.Since.{settle}
use Rattle.mz_rules.specs.declared.capability.Collection.{Collection}
use Rattle.mz_rules.proofs.Each.{each_both, each_filter, each_map, each_of, each_one, each_right, each_unmap}
use Rattle.mz_rules.proofs.Listed.{joining_asks}
use Rattle.mz_log.specs.declared.entry.Entry.TheVariants.{Apply, Read, Finish, Instant, Cancel, Fed, Absorbed, Join, Crash}
use Rattle.mz_log.specs.declared.stream.Stream.{Stream}
use Rattle.mz_log.specs.Log.{Log}
use Rattle.mz_books.specs.Clusters.{cluster_of}
use Rattle.mz_books.specs.Rounds.{read_time}
use Rattle.mz_books.specs.States.{query_plan, round_changes, scope_of}
use Rattle.mz_books.specs.Collections.{collections, plan_or_none, reported, retained}
use Rattle.mz_books.specs.Holds.{holds, is_of_call, is_peek, pending}
use Rattle.mz_books.specs.Since.{kept, settled}
use Rattle.mz_books.specs.Streams.{asking_lines, crashed, ending_lines, fed, is_kept_in, is_stream, joining_stream, new_lines, newer_report, reporting, streams, told_more}
use Rattle.mz_books.specs.Legal.{Legal}
use Rattle.mz_books.specs.Safe.{AreAsked, asks_for}
use Rattle.mz_safe_laws.proofs.Onward.{IsPlaced}
use Rattle.mz_safe_laws.proofs.Sound.{sound}
use Rattle.mz_stream_laws.proofs.Put.{put_reported, put_retained}
use Rattle.mz_stream_laws.proofs.Kept.{Keeps, keeps_moved, keeps_read, keeps_round, keeps_self}

-- ---- what lines ask for

-- what lines ask for, these and further ones do
asks_longer : (peek : ℕ) (lines more : List Command) → asks_for peek lines ≡ true → asks_for peek (lines ++ more) ≡ true
asks_longer peek [] more e = absurd (false≢true e)
asks_longer peek (Create collection plan t ∷ lines) more e = asks_longer peek lines more e
asks_longer peek (Allow collection f ∷ lines) more e = asks_longer peek lines more e
asks_longer peek (Retire other ∷ lines) more e = asks_longer peek lines more e
asks_longer peek (Peek other collection t ∷ lines) more e = elim (or_cases (other == peek) (asks_for peek lines) e) [
  | inl own ↦ or_left (other == peek) (asks_for peek (lines ++ more)) own
  | inr later ↦ or_right (other == peek) (asks_for peek (lines ++ more)) (asks_longer peek lines more later)
]

-- and so it is with what the further ones ask for
asks_behind : (peek : ℕ) (lines more : List Command) → asks_for peek more ≡ true → asks_for peek (lines ++ more) ≡ true
asks_behind peek [] more e = e
asks_behind peek (Create collection plan t ∷ lines) more e = asks_behind peek lines more e
asks_behind peek (Allow collection f ∷ lines) more e = asks_behind peek lines more e
asks_behind peek (Retire other ∷ lines) more e = asks_behind peek lines more e
asks_behind peek (Peek other collection t ∷ lines) more e =
    or_right (other == peek) (asks_for peek (lines ++ more)) (asks_behind peek lines more e)

-- ---- one stream

-- the lines ask for the peek, if the replicas of the cluster make its collection
abbrev Asks : ℕ → List Collection → List Command → PendingPeek → Type 0
Asks cluster cs lines peek = is_kept_in cluster cs peek.collection ≡ true → asks_for peek.peek lines ≡ true

-- a live stream asks for each of these peeks
abbrev AsksEach : List Collection → List PendingPeek → Stream → Type 0
AsksEach cs peeks s = s.live ≡ true → Each (Asks s.cluster cs s.commands) peeks

-- later collections keep those of these peeks
abbrev pub KeepAll : List Collection → List Collection → List PendingPeek → Type 0
KeepAll cs ds peeks = Each (λ peek. Keeps peek.collection cs ds) peeks

-- it does so still once there are other collections and further lines
asks_more : (cs ds : List Collection) (peeks : List PendingPeek) → KeepAll cs ds peeks → (s : Stream) (more : List Command)
    → AsksEach cs peeks s → AsksEach ds peeks (record s { commands = s.commands ++ more })
asks_more cs ds peeks keep s more p live =
    each_both (λ peek. Keeps peek.collection cs ds) (Asks s.cluster cs s.commands) (Asks s.cluster ds (s.commands ++ more))
    (λ peek k q e. asks_longer peek.peek s.commands more (q (sym (k.same s.cluster) ∙ e))) peeks keep (p live)

-- or other collections alone
asks_kept : (cs ds : List Collection) (peeks : List PendingPeek) → KeepAll cs ds peeks → (s : Stream) → AsksEach cs peeks s → AsksEach ds peeks s
asks_kept cs ds peeks keep s p live =
    each_both (λ peek. Keeps peek.collection cs ds) (Asks s.cluster cs s.commands) (Asks s.cluster ds s.commands)
    (λ peek k q e. q (sym (k.same s.cluster) ∙ e)) peeks keep (p live)

-- once it was told more
asks_told : (cs ds : List Collection) (peeks : List PendingPeek) → KeepAll cs ds peeks → (lines : ℕ → List Command) (s : Stream)
    → AsksEach cs peeks s → AsksEach ds peeks (told_more lines s)
asks_told cs ds peeks keep lines s p =
    cond_both s.live (record s { commands = s.commands ++ lines s.cluster }) s (AsksEach ds peeks)
    (λ e. asks_more cs ds peeks keep s (lines s.cluster) p) (λ e live. absurd (false≢true (sym e ∙ live)))

-- a line asks for a new peek
asking : (cs : List Collection) (waiting : PendingPeek) (cluster : ℕ)
    → Asks cluster cs (asking_lines cs (ask waiting) waiting.collection cluster) waiting
asking cs waiting cluster e =
    ap (asks_for waiting.peek) (cond-true _ _ _ e) ∙ or_left (waiting.peek == waiting.peek) false (eq-eqb waiting.peek waiting.peek refl)

-- so it asks for that one too
asks_new : (cs ds : List Collection) (peeks : List PendingPeek) → KeepAll cs ds peeks → (waiting : PendingPeek) (lines : ℕ → List Command)
    → (s : Stream) → AsksEach cs peeks s
    → AsksEach ds (peeks ++ waiting ∷ []) (told_more (λ cluster. lines cluster ++ asking_lines ds (ask waiting) waiting.collection cluster) s)
asks_new cs ds peeks keep waiting lines s p =
    let line = asking_lines ds (ask waiting) waiting.collection s.cluster in
    cond_both s.live (record s { commands = s.commands ++ (lines s.cluster ++ line) }) s (AsksEach ds (peeks ++ waiting ∷ []))
    (λ e live. each_one (Asks s.cluster ds (s.commands ++ (lines s.cluster ++ line))) peeks waiting
    (asks_more cs ds peeks keep s (lines s.cluster ++ line) p live)
    (λ here. asks_behind waiting.peek s.commands (lines s.cluster ++ line)
    (asks_behind waiting.peek (lines s.cluster) line (asking ds waiting s.cluster here))))
    (λ e live. absurd (false≢true (sym e ∙ live)))

-- with fewer peeks
asks_fewer : (cs : List Collection) (peeks : List PendingPeek) (left : PendingPeek → Bool) (s : Stream) → AsksEach cs peeks s
    → AsksEach cs (filter left peeks) s
asks_fewer cs peeks left s p live = each_filter (Asks s.cluster cs s.commands) left peeks (p live)

-- ---- a stream that joins

-- the collections are those with their sinces
read_kept : (kept : List Capability) (cluster number : ℕ) (cs : List Collection)
    → is_read_in cluster (settle kept cs) number ≡ is_kept_in cluster cs number
read_kept kept cluster number [] = refl
read_kept kept cluster number (c ∷ cs) =
    ap (λ rest. ((c.number == number) && is_made_in cluster c) || rest) (read_kept kept cluster number cs)

-- the numbers of peeks that pass a test have that of each that passes
has_own : (test : PendingPeek → Bool) (peeks : List PendingPeek)
    → Each (λ peek. test peek ≡ true → list_any (λ other. other == peek.peek) (map (λ p. p.peek) (filter test peeks)) ≡ true) peeks
has_own test [] = tt
has_own test (first ∷ peeks) =
    let later = has_own test peeks in
    let numbers : List PendingPeek → List ℕ = map (λ p. p.peek) in
    let has : List PendingPeek → PendingPeek → Type 0 = λ those peek. test peek ≡ true → list_any (λ other. other == peek.peek) (numbers those) ≡ true in
    cond_both (test first) (first ∷ filter test peeks) (filter test peeks) (λ those. has those first × Each (has those) peeks)
    (λ e. (
      (λ _. or_left (first.peek == first.peek) _ (eq-eqb first.peek first.peek refl)),
      each_of (has (filter test peeks)) (has (first ∷ filter test peeks)) (λ peek q h. or_right (first.peek == peek.peek) _ (q h)) peeks later,
    ))
    (λ e. ((λ h. absurd (false≢true (sym e ∙ h))), later))

-- so the first lines ask for each pending peek
asks_joining : (log : Log) (replica : List ℕ) (incarnation cluster : ℕ)
    → AsksEach (collections log) (pending log) (joining_stream replica incarnation cluster (joining cluster (settled log) (pending log)))
asks_joining log replica incarnation cluster live =
    let read : PendingPeek → Bool = λ peek. is_read_in cluster (settled log) peek.collection in
    each_of (λ peek. read peek ≡ true → list_any (λ other. other == peek.peek) (map (λ p. p.peek) (filter read (pending log))) ≡ true)
    (Asks cluster (collections log) (joining cluster (settled log) (pending log)))
    (λ peek q here. ap (list_any (λ other. other == peek.peek)) (joining_asks cluster (settled log) (pending log))
    ∙ q (read_kept (kept log) cluster peek.collection (collections log) ∙ here)) (pending log) (has_own read (pending log))

-- ---- every stream

-- the collections of pending peeks are there
pub peeks_placed : (log : Log) → Legal log → Each (λ peek. IsPlaced (length (collections log)) (read_time log) (of_peek peek)) (pending log)
peeks_placed log l =
    let placed = IsPlaced (length (collections log)) (read_time log) in
    each_unmap (λ peek. placed (of_peek peek)) placed of_peek (λ peek p. p) (pending log)
    (each_right placed (map of_hold (holds log)) (map of_peek (pending log)) (sound log l).core.placed)

-- so collections that keep each that is there keep those of peeks
pub keep_all : (log : Log) → Legal log → (ds : List Collection) → ((number : ℕ) → number ≤ length (collections log) → Keeps number (collections log) ds)
    → KeepAll (collections log) ds (pending log)
keep_all log l ds keep =
    each_of (λ peek. IsPlaced (length (collections log)) (read_time log) (of_peek peek)) (λ peek. Keeps peek.collection (collections log) ds)
    (λ peek p. keep peek.collection p.made) (pending log) (peeks_placed log l)

-- and so each live stream asks for each pending peek
pub all_asked : (log : Log) → Legal log → AreAsked log
all_asked [] l = ((λ live. tt), tt)
all_asked (Apply time replies ∷ log) l =
    let longer : Log = Apply time replies ∷ log in
    let keep = keep_all log l.0 (collections longer) (λ number h. keeps_round number time (collections log) (round_changes log replies) h) in
    each_map (AsksEach (collections log) (pending log)) (AsksEach (collections longer) (pending log))
    (told_more (new_lines (collections log) (collections longer)))
    (asks_told (collections log) (collections longer) (pending log) keep (new_lines (collections log) (collections longer)))
    (streams log) (all_asked log l.0)
all_asked (Read session call peek time statement collection ∷ log) l =
    let longer : Log = Read session call peek time statement collection ∷ log in
    let waiting : PendingPeek = record { peek = peek; session = session; call = call; collection = collection; time = time } in
    let keep = keep_all log l.0 (collections longer) (λ number h. keeps_read number collection peek (cluster_of log session)
    (plan_or_none (query_plan (scope_of log session) statement)) time (collections log) h) in
    each_map (AsksEach (collections log) (pending log)) (AsksEach (collections longer) (pending longer)) _
    (asks_new (collections log) (collections longer) (pending log) keep waiting (new_lines (collections log) (collections longer)))
    (streams log) (all_asked log l.0)
all_asked (Finish peek rows ∷ log) l =
    let left : PendingPeek → Bool = λ waiting. not (is_peek peek waiting) in
    each_map (AsksEach (collections log) (pending log)) (AsksEach (collections log) (filter left (pending log))) _
    (λ s p. asks_told (collections log) (collections log) (filter left (pending log))
    (each_filter (λ w. Keeps w.collection (collections log) (collections log)) left (pending log)
    (keep_all log l.0 (collections log) (λ number h. keeps_self number (collections log))))
    (ending_lines (collections log) (filter (is_peek peek) (pending log))) s (asks_fewer (collections log) (pending log) left s p))
    (streams log) (all_asked log l.0)
all_asked (Cancel session call ∷ log) l =
    let left : PendingPeek → Bool = λ waiting. not (is_of_call session call waiting) in
    each_map (AsksEach (collections log) (pending log)) (AsksEach (collections log) (filter left (pending log))) _
    (λ s p. asks_told (collections log) (collections log) (filter left (pending log))
    (each_filter (λ w. Keeps w.collection (collections log) (collections log)) left (pending log)
    (keep_all log l.0 (collections log) (λ number h. keeps_self number (collections log))))
    (ending_lines (collections log) (filter (is_of_call session call) (pending log))) s (asks_fewer (collections log) (pending log) left s p))
    (streams log) (all_asked log l.0)
all_asked (Fed r i taken to ∷ log) l =
    let asks = AsksEach (collections log) (pending log) in
    each_map asks asks (fed r i (settled log))
    (λ s p. cond_both (is_stream r i s) (record s { commands = s.commands ++ allowances (settled log) s.commands }) s asks
    (λ e. asks_more (collections log) (collections log) (pending log)
    (keep_all log l.0 (collections log) (λ number h. keeps_self number (collections log))) s (allowances (settled log) s.commands) p) (λ e. p))
    (streams log) (all_asked log l.0)
all_asked (Absorbed r i turn taken ready frontiers ∷ log) l =
    let ds = map (reported frontiers) (collections log) in
    let asks = AsksEach ds (pending log) in
    let keep = keep_all log l.0 ds (λ number h. keeps_moved (reported frontiers) (put_reported frontiers) number (collections log)) in
    each_map (AsksEach (collections log) (pending log)) asks (reporting r i (record { turn = turn; taken = taken; ready = ready }))
    (λ s p. let same = asks_kept (collections log) ds (pending log) keep s p in
    cond_both (s.live && is_stream r i s) (record s { report = newer_report (record { turn = turn; taken = taken; ready = ready }) s.report }) s asks
    (λ e. same) (λ e. same)) (streams log) (all_asked log l.0)
all_asked (Instant session call (Retain name keep) time ∷ log) l =
    let ds = map (retained name keep) (collections log) in
    let same = keep_all log l.0 ds (λ number h. keeps_moved (retained name keep) (put_retained name keep) number (collections log)) in
    each_of (AsksEach (collections log) (pending log)) (AsksEach ds (pending log)) (asks_kept (collections log) ds (pending log) same) (streams log)
    (all_asked log l.0)
all_asked (Join r i cluster ∷ log) l =
    each_one (AsksEach (collections log) (pending log)) (streams log) _ (all_asked log l.0) (asks_joining log r i cluster)
all_asked (Crash r ∷ log) l =
    let asks = AsksEach (collections log) (pending log) in
    each_map asks asks (crashed r)
    (λ s p. cond_both (bytes_eq s.replica r) (record s { live = false }) s asks (λ e live. absurd (false≢true live)) (λ e. p))
    (streams log) (all_asked log l.0)
all_asked (entry ∷ log) l = all_asked log l.0
