-- What a round that is applied leaves of the commands that wait, and of the calls that do.
use Rattle.std.proofs.Common.{◌≡◌, ℕ, Bool, true, false, cond, ◌==◌, ◌||◌, List, [], ◌∷◌, ◌++◌, drop, filter, find, length, map, not, Option, None, Some, is_none, is_some, refl, sym, ap, ◌∙◌, subst, inl, inr}
use Rattle.std.specs.List.{AllByRecursion as Each, list_any}
use Rattle.std.proofs.Math.Seq.{drop-append_seam}
use Rattle.std.proofs.lemmas.Bool.{and_from, and_left, eq-eqb, eqb-true, false≢true, or_cases, or_right}
use Rattle.std.proofs.lemmas.List.{length-map}
use Rattle.std.proofs.lemmas.List.Elements.{filter-append}
use Rattle.mz_rules.proofs.Each.{each_all, each_both, each_of, each_right}
use Rattle.mz_log.specs.declared.entry.Entry.TheVariants.{Apply}
use Rattle.mz_log.specs.declared.entry.Replied.{Replied}
use Rattle.mz_log.specs.Log.{Log}
use Rattle.mz_log.specs.Sequential.{Sequential}
use Rattle.mz_log.specs.CarriedOut.{seq}
use Rattle.mz_books.specs.Clusters.{cluster_of}
use Rattle.mz_books.specs.Entries.{Queued, is_reply_to}
use Rattle.mz_books.specs.Rounds.{Round, open_round, queued, unreplied}
use Rattle.mz_books.specs.States.{newest_state, replies_to, round_reply}
use Rattle.mz_books.specs.Calls.{Call, calls, is_waiting, replied_by, replied_in}
use Rattle.mz_books.specs.Sessions.{calls_made, outstanding}
use Rattle.mz_books.specs.Legal.{Legal}
use Rattle.mz_call_laws.specs.Members.{Has, Pairwise}
use Rattle.mz_call_laws.specs.Waiting.{AreApart}
use Rattle.mz_call_laws.proofs.CommandSteps.{is_left}
use Rattle.mz_call_laws.proofs.Flat.{any_found, filter_all, none_any}
use Rattle.mz_call_laws.proofs.Front.{NoneOf}
use Rattle.mz_call_laws.proofs.Lists.{each_from}
use Rattle.mz_call_laws.proofs.Precedes.{one_waits}
use Rattle.mz_call_laws.proofs.Rounds.{in_round_queued, queued_apart, queued_call, reply_to}
use Rattle.mz_call_laws.proofs.Transactions.{applied_front, none_told, round_leaves}
use Rattle.mz_frames.proofs.Appended.{waiting_in}
use Rattle.mz_frames.proofs.Changed.{any_has, made_changed, replied_keeps_sessions, waits_ended, waits_same}

-- ---- members and tests

-- a member that passes a test
pub record Passing {A : Type 0} (test : A → Bool) (xs : List A) : Type 0 where
  pub member : A
  pub there : Has member xs
  pub passes : test member ≡ true

-- where any passes, one does
pub member_of : {A : Type 0} (test : A → Bool) (xs : List A) → list_any test xs ≡ true → Passing test xs
member_of test [] e = absurd (false≢true e)
member_of test (x ∷ xs) e = elim (or_cases (test x) (list_any test xs) e) [
  | inl own ↦ record { member = x; there = inl refl; passes = own }
  | inr later ↦ let rest = member_of test xs later in record { member = rest.member; there = inr rest.there; passes = rest.passes }
]

-- what isn't not is
is_of_not : (b : Bool) → not b ≡ false → b ≡ true
is_of_not true e = refl
is_of_not false e = sym e

-- ---- commands and replies

-- a command that a round replies to is replied to, too, once the round has one command more
still_replied : (told : Replied) (replies : List Replied) (n : Queued) → is_left replies n ≡ false → is_left (told ∷ replies) n ≡ false
still_replied told replies n e =
    ap not (or_right (is_reply_to n.session n.call told) (list_any (is_reply_to n.session n.call) replies)
    (is_of_not (list_any (is_reply_to n.session n.call) replies) e))

-- each command has its reply
replied_each : (cluster : ℕ → ℕ) (state : Sequential) (ms : List Queued)
    → Each (λ m. is_left (replies_to cluster state ms) m ≡ false) ms
replied_each cluster state [] = tt
replied_each cluster state (m ∷ ms) =
    let later : Sequential = (seq state (cluster m.session) m.statement).state in
    let told : Replied = record {
      session = m.session;
      call = m.call;
      statement = m.statement;
      reply = round_reply (seq state (cluster m.session) m.statement).response;
    } in
    let own : is_reply_to m.session m.call told ≡ true = and_from _ _ (eq-eqb m.session m.session refl) (eq-eqb m.call m.call refl) in (
      ap (λ b. not (b || list_any (is_reply_to m.session m.call) (replies_to cluster later ms))) own,
      each_of (λ n. is_left (replies_to cluster later ms) n ≡ false) (λ n. is_left (told ∷ replies_to cluster later ms) n ≡ false)
          (still_replied told (replies_to cluster later ms)) ms (replied_each cluster later ms),
    )

-- what none passes leaves nothing
pub filter_none : {A : Type 0} (keep : A → Bool) (xs : List A) → Each (λ x. keep x ≡ false) xs → filter keep xs ≡ []
filter_none keep [] e = refl
filter_none keep (x ∷ xs) e = ap (λ b. cond b (x ∷ filter keep xs) (filter keep xs)) e.0 ∙ filter_none keep xs e.1

-- each of the second of two lists is behind each of the first
pub across : {A : Type 0} (P : A → A → Type 0) (xs ys : List A) → Pairwise P (xs ++ ys) → Each (λ y. Each (λ x. P x y) xs) ys
across P [] ys p = each_all _ (λ y. tt) ys
across P (x ∷ xs) ys p =
    each_both (P x) (λ y. Each (λ z. P z y) xs) (λ y. Each (λ z. P z y) (x ∷ xs)) (λ y first others. (first, others)) ys
    (each_right (P x) xs ys p.0) (across P xs ys p.1)

-- commands of other sessions have none
unreplied_each : (cluster : ℕ → ℕ) (state : Sequential) (ms behind : List Queued) → Each (λ n. NoneOf n.session ms) behind
    → Each (λ n. is_left (replies_to cluster state ms) n ≡ true) behind
unreplied_each cluster state ms behind apart =
    each_of _ _ (λ n none. ap not (any_found (is_reply_to n.session n.call) (replies_to cluster state ms)
    ∙ ap is_some (none_told cluster state ms n.session n.call none))) behind apart

-- so the commands of a round go, and those behind them stay
pub behind_stays : (cluster : ℕ → ℕ) (state : Sequential) (ms behind : List Queued) → Pairwise AreApart (ms ++ behind)
    → unreplied (replies_to cluster state ms) (ms ++ behind) ≡ behind
behind_stays cluster state ms behind apart =
    let left = is_left (replies_to cluster state ms) in
    filter-append left ms behind
    ∙ ap (λ l. l ++ filter left behind) (filter_none left ms (replied_each cluster state ms))
    ∙ filter_all left behind (unreplied_each cluster state ms behind (across AreApart ms behind apart))

-- ---- the log

-- nothing is no round
one_round : (first second : Round) → Some first ≡ Some second → second ≡ first
one_round first second e = cc

-- a round that is applied is the open one
pub own_round : (log : Log) (time : ℕ) (replies : List Replied) (round : Round) → (l : Legal (Apply time replies ∷ log))
    → open_round log ≡ Some round → l.1.may.round ≡ round
own_round log time replies round l is = one_round round l.1.may.round (sym is ∙ l.1.may.is_open)

-- its replies are those of the sequential object to its commands
pub round_replies : (log : Log) (time : ℕ) (replies : List Replied) (round : Round) → Legal (Apply time replies ∷ log)
    → open_round log ≡ Some round → replies ≡ replies_to (cluster_of log) (newest_state log) round.commands
round_replies log time replies round l is =
    l.1.may.own_replies ∙ ap (λ r. replies_to (cluster_of log) (newest_state log) r.commands) (own_round log time replies round l is)

-- and it is applied at its own time
pub round_time : (log : Log) (time : ℕ) (replies : List Replied) (round : Round) → Legal (Apply time replies ∷ log)
    → open_round log ≡ Some round → time ≡ round.time
round_time log time replies round l is = l.1.may.own_time ∙ ap (λ r. r.time) (own_round log time replies round l is)

-- the commands of the round go, and those behind them wait still
pub round_queue : (log : Log) (time : ℕ) (replies : List Replied) (round : Round) → Legal (Apply time replies ∷ log)
    → open_round log ≡ Some round → queued (Apply time replies ∷ log) ≡ drop (length round.commands) (queued log)
round_queue log time replies round l is =
    let front = applied_front log time replies l.0 l.1.may in
    let mine = l.1.may.round.commands in
    let state = newest_state log in
    ap (λ told. unreplied told (queued log)) l.1.may.own_replies
    ∙ ap (unreplied (replies_to (cluster_of log) state mine)) front.is
    ∙ behind_stays (cluster_of log) state mine front.behind (subst (Pairwise AreApart) front.is (queued_apart log l.0))
    ∙ sym (drop-append_seam mine front.behind) ∙ ap (drop (length mine)) (sym front.is)
    ∙ ap (λ r. drop (length r.commands) (queued log)) (own_round log time replies round l is)

-- the commands of the round and those that wait behind them are all that waited
pub round_front : (log : Log) (time : ℕ) (replies : List Replied) (round : Round) → Legal (Apply time replies ∷ log)
    → open_round log ≡ Some round → queued log ≡ round.commands ++ queued (Apply time replies ∷ log)
round_front log time replies round l is =
    let front = applied_front log time replies l.0 l.1.may in
    let mine = l.1.may.round.commands in
    let same = own_round log time replies round l is in
    front.is ∙ ap (λ more. mine ++ more) (sym (drop-append_seam mine front.behind) ∙ ap (drop (length mine)) (sym front.is))
    ∙ ap (λ r. r.commands ++ drop (length r.commands) (queued log)) same
    ∙ ap (λ more. round.commands ++ more) (sym (round_queue log time replies round l is))

-- a session has made as many calls
pub round_made : (log : Log) (time : ℕ) (replies : List Replied) (other : ℕ)
    → calls_made (Apply time replies ∷ log) other ≡ calls_made log other
round_made log time replies other =
    made_changed other (replied_in time replies) (calls log) (replied_keeps_sessions time replies (calls log))

-- there are as many calls
pub round_long : (log : Log) (time : ℕ) (replies : List Replied) → length (calls (Apply time replies ∷ log)) ≡ length (calls log)
round_long log time replies = length-map (calls log) (replied_in time replies)

-- ---- calls that wait

-- a reply that is there is a reply
pub given_done : (time : ℕ) (c : Call) (given : Option Replied) → is_some given ≡ true → is_waiting (replied_by time given c) ≡ false
given_done time c None e = absurd (cc)
given_done time c (Some told) e = refl

-- a round replies to the call of its command
pub call_replied : (log : Log) (time : ℕ) (replies : List Replied) → Legal (Apply time replies ∷ log) → (told : Replied)
    → Has told replies → (c : Call) → Has c (calls log) → c.stored.session ≡ told.session → is_waiting c ≡ true
    → list_any (is_reply_to c.stored.session c.stored.call) replies ≡ true
call_replied log time replies l told there c among mine waits =
    let may = l.1.may in
    let reply = reply_to (cluster_of log) (newest_state log) may.round.commands told (subst (Has told) may.own_replies there) in
    let asked = queued_call log reply.command (in_round_queued log may.round l.0 may.is_open reply.command reply.there) in
    let same = one_waits log l.0 c asked.call among asked.there
    (mine ∙ sym (asked.is.session ∙ reply.session)) waits (ap is_none asked.is.no_reply) in
    let number : c.stored.call ≡ told.call = ap (λ d. d.stored.call) same ∙ asked.is.number ∙ reply.call in
    any_has (is_reply_to c.stored.session c.stored.call) told replies there
    (and_from _ _ (eq-eqb told.session c.stored.session (sym mine)) (eq-eqb told.call c.stored.call (sym number)))

-- then it has its reply
pub call_done : (time : ℕ) (replies : List Replied) (c : Call)
    → (is_waiting c ≡ true → list_any (is_reply_to c.stored.session c.stored.call) replies ≡ true)
    → is_waiting (replied_in time replies c) ≡ false
call_done time replies c is =
    elim (is_waiting c) as (λ b. is_waiting c ≡ b
    → is_waiting (cond b (replied_by time (find (is_reply_to c.stored.session c.stored.call) replies) c) c) ≡ false) [
      | true ↦ λ waits.
          given_done time c (find (is_reply_to c.stored.session c.stored.call) replies)
          (sym (any_found (is_reply_to c.stored.session c.stored.call) replies) ∙ is waits)
      | false ↦ λ done. done
    ] refl

-- what no member passes isn't found
found_none : {A : Type 0} (test : A → Bool) (xs : List A) → Each (λ x. test x ≡ false) xs → find test xs ≡ None
found_none test [] e = refl
found_none test (x ∷ xs) e = ap (λ b. cond b (Some x) (find test xs)) e.0 ∙ found_none test xs e.1

-- a call of a session to which no reply goes stays
pub call_stays : (time : ℕ) (replies : List Replied) (s : ℕ) (c : Call) → list_any (λ told. told.session == s) replies ≡ false
    → c.stored.session ≡ s → replied_in time replies c ≡ c
call_stays time replies s c none mine =
    round_leaves time replies c
    (found_none (is_reply_to c.stored.session c.stored.call) replies
    (each_of _ _ (λ told other. and_left (told.session == c.stored.session) (told.call == c.stored.call)
    (ap (λ n. told.session == n) mine ∙ other)) replies (none_any (λ told. told.session == s) replies none)))

-- the sessions of its commands wait for none, and others as before
pub round_waits : (log : Log) (time : ℕ) (replies : List Replied) → Legal (Apply time replies ∷ log) → (other : ℕ)
    → outstanding (Apply time replies ∷ log) other ≡ cond (list_any (λ told. told.session == other) replies) None (outstanding log other)
round_waits log time replies l other =
    let kept = replied_keeps_sessions time replies (calls log) in
    elim (list_any (λ told. told.session == other) replies) as (λ b. list_any (λ told. told.session == other) replies ≡ b
    → waiting_in other (map (replied_in time replies) (calls log)) ≡ cond b None (waiting_in other (calls log))) [
      | true ↦ λ some.
          let told = member_of (λ told. told.session == other) replies some in
          waits_ended other (replied_in time replies) (calls log) kept
          (each_from _ (calls log)
          (λ c there mine. call_done time replies c
          (call_replied log time replies l told.member told.there c there (mine ∙ sym (eqb-true told.member.session other told.passes)))))
      | false ↦ λ none. waits_same other (replied_in time replies) (calls log) kept
          (each_all _ (λ c mine. call_stays time replies other c none mine) (calls log))
    ] refl

-- replies go to the sessions of the commands
pub same_sessions : (cluster : ℕ → ℕ) (state : Sequential) (ms : List Queued) (s : ℕ)
    → list_any (λ told. told.session == s) (replies_to cluster state ms) ≡ list_any (λ m. m.session == s) ms
same_sessions cluster state [] s = refl
same_sessions cluster state (m ∷ ms) s =
    ap (λ b. (m.session == s) || b) (same_sessions cluster (seq state (cluster m.session) m.statement).state ms s)

-- so it is with the sessions of the commands
pub round_waits_of : (log : Log) (time : ℕ) (replies : List Replied) (round : Round) → Legal (Apply time replies ∷ log)
    → open_round log ≡ Some round → (other : ℕ)
    → outstanding (Apply time replies ∷ log) other ≡ cond (list_any (λ m. m.session == other) round.commands) None (outstanding log other)
round_waits_of log time replies round l is other =
    round_waits log time replies l other
    ∙ ap (λ b. cond b None (outstanding log other))
    (ap (list_any (λ told. told.session == other)) (round_replies log time replies round l is)
    ∙ same_sessions (cluster_of log) (newest_state log) round.commands other)
