-- A packet that has all lines of a live stream answers exactly the pending peeks of its cluster to whose time it has come.
use Rattle.std.proofs.Common.{◌≡◌, ℕ, ◌<◌, ◌==◌, ◌&&◌, ◌||◌, Bool, true, false, cond, not, List, [], ◌∷◌, length, filter, map, take, nat_lt, refl, sym, ap, ◌∙◌, subst, arith}
use Rattle.std.specs.List.{AllByRecursion as Each}
use Rattle.std.proofs.lemmas.Bool.{cond-true, eqb-true, lt-ltb}
use Rattle.std.proofs.Math.Seq.{take-length}
use Rattle.mz_plan.specs.declared.command.Command.{Command}
use Rattle.mz_plan.specs.declared.command.Command.TheVariants.{Create, Allow, Peek, Retire}
use Rattle.mz_plan.specs.declared.command.PendingPeek.{PendingPeek}
use Rattle.mz_rules.specs.Capabilities.{of_peek}
use Rattle.mz_rules.specs.Streams.{is_retired}
use Rattle.mz_rules.proofs.Each.{each_both, each_of}
use Rattle.mz_log.specs.declared.entry.Entry.TheVariants.{Finish}
use Rattle.mz_log.specs.declared.stream.Stream.{Stream}
use Rattle.mz_log.specs.Log.{Log}
use Rattle.mz_books.specs.Clusters.{cluster_of}
use Rattle.mz_books.specs.Rounds.{read_time}
use Rattle.mz_books.specs.Collections.{collections}
use Rattle.mz_books.specs.Feeds.{answers_in, feeds, packet_answers}
use Rattle.mz_books.specs.Holds.{peeks_made, pending}
use Rattle.mz_books.specs.Legal.{Legal}
use Rattle.mz_books.specs.Owed.{answers_of, finishes, is_answered, owed, peek_rows}
use Rattle.mz_books.specs.Safe.{asks_for}
use Rattle.mz_books.specs.Streams.{is_kept_in, is_stream, lines_in, streams}
use Rattle.mz_call_laws.proofs.Lists.{each_has, found}
use Rattle.mz_safe_laws.proofs.Bundles.{Bundle}
use Rattle.mz_safe_laws.proofs.Onward.{IsPlaced}
use Rattle.mz_safe_laws.proofs.Reached.{Agrees, not_retired}
use Rattle.mz_stream_laws.specs.Taken.{HasTakenAll}
use Rattle.mz_stream_laws.proofs.Asked.{all_asked, peeks_placed}
use Rattle.mz_stream_laws.proofs.PeekPlaces.{peeks_kept}
use Rattle.mz_safe_laws.proofs.Honest.{faithful}

-- ---- one peek

-- a peek more among the answers, or none
answered_cond : (peek : ℕ) (answers : List ℕ) (waiting : PendingPeek) (test : Bool)
    → is_answered (cond test (peek ∷ answers) answers) waiting ≡ ((test && (peek == waiting.peek)) || is_answered answers waiting)
answered_cond peek answers waiting true = refl
answered_cond peek answers waiting false = refl

-- where a line is for the peek, it is answered if its time has come; where it isn't, the other lines decide
by_lines : (test own answered asks come : Bool) → answered ≡ (asks && come) → (own ≡ true → test ≡ come)
    → ((test && own) || answered) ≡ ((own || asks) && come)
by_lines test false answered asks come rest same = none test
  where
    none : (b : Bool) → ((b && false) || answered) ≡ (asks && come)
    none true = rest
    none false = rest
by_lines test true answered asks come rest same = ap (λ b. (b && true) || answered) (same refl) ∙ of_come come asks rest
  where
    of_come : (c a : Bool) → answered ≡ (a && c) → ((c && true) || answered) ≡ c
    of_come true a h = refl
    of_come false true h = h
    of_come false false h = h

-- a test that fails makes no difference
and_true : (b c : Bool) → c ≡ false → (b && not c) ≡ b
and_true true c e = ap not e
and_true false c e = refl

-- lines that agree with a peek and don't end it answer it exactly if they ask for it and its time has come
answers_exactly : (waiting : PendingPeek) (ready : ℕ) (all : List Command) → is_retired waiting.peek all ≡ false → (lines : List Command)
    → Each (Agrees waiting) lines → is_answered (answers_in all ready lines) waiting ≡ (asks_for waiting.peek lines && nat_lt waiting.time ready)
answers_exactly waiting ready all stays [] p = refl
answers_exactly waiting ready all stays (Create collection plan t ∷ lines) p = answers_exactly waiting ready all stays lines p.1
answers_exactly waiting ready all stays (Allow collection f ∷ lines) p = answers_exactly waiting ready all stays lines p.1
answers_exactly waiting ready all stays (Retire peek ∷ lines) p = answers_exactly waiting ready all stays lines p.1
answers_exactly waiting ready all stays (Peek peek collection t ∷ lines) p =
    let test : Bool = nat_lt t ready && not (is_retired peek all) in
    answered_cond peek (answers_in all ready lines) waiting test
    ∙ by_lines test (peek == waiting.peek) (is_answered (answers_in all ready lines) waiting) (asks_for waiting.peek lines) (nat_lt waiting.time ready)
    (answers_exactly waiting ready all stays lines p.1)
    (λ own. let same = eqb-true peek waiting.peek own in
    and_true (nat_lt t ready) (is_retired peek all) (ap (λ k. is_retired k all) same ∙ stays) ∙ ap (λ k. nat_lt k ready) (p.0 same))

-- ---- all pending peeks

-- tests that agree leave the same
filter_alike : {A : Type 0} (f g : A → Bool) (xs : List A) → Each (λ x. f x ≡ g x) xs → filter f xs ≡ filter g xs
filter_alike f g [] p = refl
filter_alike f g (x ∷ xs) p = λ i. cond (p.0 i) (x ∷ filter_alike f g xs p.1 i) (filter_alike f g xs p.1 i)

-- what passes everywhere leaves all
filter_all : {A : Type 0} (f : A → Bool) (xs : List A) → Each (λ x. f x ≡ true) xs → filter f xs ≡ xs
filter_all f [] p = refl
filter_all f (x ∷ xs) p = cond-true _ _ _ p.0 ∙ ap (λ rest. x ∷ rest) (filter_all f xs p.1)

-- what a live stream answers, of the peeks that it agrees with and asks for
stream_answers : (ready : ℕ) (peeks : List PendingPeek) (lines : List Command) → Each (λ waiting. Each (Agrees waiting) lines) peeks
    → Each (λ waiting. asks_for waiting.peek lines ≡ true) peeks
    → Each (λ waiting. is_answered (packet_answers lines ready) waiting ≡ nat_lt waiting.time ready) peeks
stream_answers ready peeks lines agree asks =
    each_both (λ waiting. Each (Agrees waiting) lines) (λ waiting. asks_for waiting.peek lines ≡ true)
    (λ waiting. is_answered (packet_answers lines ready) waiting ≡ nat_lt waiting.time ready)
    (λ waiting a e. answers_exactly waiting ready lines (not_retired waiting lines a) lines a ∙ ap (λ b. b && nat_lt waiting.time ready) e)
    peeks agree asks

-- a live stream of the main cluster asks for each pending peek
asks_each : (log : Log) → Legal log → (s : Stream) → s.cluster ≡ 0
    → Each (λ peek. is_kept_in s.cluster (collections log) peek.collection ≡ true → asks_for peek.peek s.commands ≡ true) (pending log)
    → Each (λ peek. asks_for peek.peek s.commands ≡ true) (pending log)
asks_each log l s main asks =
    each_both (λ peek. is_kept_in (cluster_of log peek.session) (collections log) peek.collection ≡ true)
    (λ peek. is_kept_in s.cluster (collections log) peek.collection ≡ true → asks_for peek.peek s.commands ≡ true)
    (λ peek. asks_for peek.peek s.commands ≡ true)
    (λ peek kept q. q (ap (λ cluster. is_kept_in cluster (collections log) peek.collection) main ∙ kept)) (pending log) (peeks_kept log l) asks

-- so its packet answers exactly those to whose time it has come
live_answers : (log : Log) → Legal log → (replica : List ℕ) (incarnation taken ready : ℕ) → HasTakenAll log replica incarnation taken
    → Each (λ peek. is_answered (answers_of log replica incarnation taken ready) peek ≡ nat_lt peek.time ready) (pending log)
live_answers log l replica incarnation taken ready has =
    let own = has.own in
    let there = (found (is_stream replica incarnation) (streams log) own has.is_own).1 in
    let bundle = each_has (Bundle (peeks_made log) (pending log) (feeds log) (owed log)) own (streams log) (faithful log l).bundles there in
    let asks = each_has (λ s. s.live ≡ true
    → Each (λ peek. is_kept_in s.cluster (collections log) peek.collection ≡ true → asks_for peek.peek s.commands ≡ true) (pending log))
    own (streams log) (all_asked log l) there has.live in
    subst (λ lines. Each (λ peek. is_answered (packet_answers lines ready) peek ≡ nat_lt peek.time ready) (pending log))
    (sym (ap (λ o. take taken (lines_in o)) has.is_own ∙ ap (λ n. take n own.commands) has.all_taken ∙ take-length own.commands))
    (stream_answers ready (pending log) own.commands bundle.fits.agrees (asks_each log l own has.main asks))

-- and finishes these, in order
pub answers_come : (log : Log) (replica : List ℕ) (incarnation taken ready : ℕ) → Legal log → HasTakenAll log replica incarnation taken
    → filter (is_answered (answers_of log replica incarnation taken ready)) (pending log) ≡ filter (λ peek. nat_lt peek.time ready) (pending log)
answers_come log replica incarnation taken ready l has =
    filter_alike (is_answered (answers_of log replica incarnation taken ready)) (λ peek. nat_lt peek.time ready) (pending log)
    (live_answers log l replica incarnation taken ready has)

-- past the read time that is all of them
pub all_answered : (log : Log) (replica : List ℕ) (incarnation taken ready : ℕ) → Legal log → HasTakenAll log replica incarnation taken
    → read_time log < ready → filter (is_answered (answers_of log replica incarnation taken ready)) (pending log) ≡ pending log
all_answered log replica incarnation taken ready l has past =
    answers_come log replica incarnation taken ready l has
    ∙ filter_all (λ peek. nat_lt peek.time ready) (pending log)
    (each_of (λ peek. IsPlaced (length (collections log)) (read_time log) (of_peek peek)) (λ peek. nat_lt peek.time ready ≡ true)
    (λ peek p. let early = p.in_time in lt-ltb peek.time ready (omega (arith, early, past))) (pending log) (peeks_placed log l))

-- so each pending peek gets its rows
pub all_finished : (log : Log) (replica : List ℕ) (incarnation taken ready : ℕ) → Legal log → HasTakenAll log replica incarnation taken
    → read_time log < ready
    → finishes log (answers_of log replica incarnation taken ready) ≡ map (λ peek. Finish peek.peek (peek_rows log peek)) (pending log)
all_finished log replica incarnation taken ready l has past =
    ap (map (λ peek. Finish peek.peek (peek_rows log peek))) (all_answered log replica incarnation taken ready l has past)
