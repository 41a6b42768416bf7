-- A session that wasn't opened has made no call, is in no transaction, and isn't closed.
use Rattle.std.proofs.Common.{◌≡◌, ℕ, ◌<◌, ◌≤◌, max, false, ◌==◌, List, [], ◌∷◌, find, length, None, option_map, refl, sym, ap, ◌∙◌, subst, inl, inr, length-append, arith}
use Rattle.std.specs.List.{AllByRecursion as Each}
use Rattle.std.proofs.lemmas.Bool.{cond-false, ne_eqb}
use Rattle.mz_rules.proofs.Each.{each_map, each_of, each_one}
use Rattle.mz_statement.specs.declared.statement.Statement.TheVariants.{Start, Commit}
use Rattle.mz_refusal.specs.declared.refusal.Refusal.{Refusal}
use Rattle.mz_log.specs.declared.entry.Entry.TheVariants.{Opened, Queue, Apply, Read, Finish, Refused, Instant, Cancel, Close}
use Rattle.mz_log.specs.declared.reply.Reply.TheVariants as reply
use Rattle.mz_log.specs.Log.{Log}
use Rattle.mz_books.specs.Clusters.{cluster_of}
use Rattle.mz_books.specs.Entries.{Queued}
use Rattle.mz_books.specs.Rounds.{queued}
use Rattle.mz_books.specs.Calls.{Call, calls, calls_of, ended, finished, is_waiting, replied_in, seen_in}
use Rattle.mz_books.specs.Holds.{transaction}
use Rattle.mz_books.specs.Sessions.{calls_made, is_closed, outstanding, seen, sessions}
use Rattle.mz_books.specs.Legal.{Legal}
use Rattle.mz_call_laws.proofs.Lists.{each_has, has_from}
use Rattle.mz_call_laws.proofs.Rounds.{queued_call}
use Rattle.mz_call_laws.proofs.Transactions.{refused_keeps}
use Rattle.mz_frames.proofs.Changed.{ended_keeps, finished_keeps, replied_keeps_sessions}
use Rattle.mz_frames.proofs.RoundEnds.{filter_none}

-- ---- calls

-- the call is of one of the first so many sessions
abbrev pub IsOfFirst : ℕ → Call → Type 0
IsOfFirst most c = c.stored.session ≤ most

-- so it is with one that keeps its session
kept_first : (most : ℕ) (before now : Call) → now.stored.session ≡ before.stored.session → IsOfFirst most before → IsOfFirst most now
kept_first most before now same h = subst (λ s. s ≤ most) (sym same) h

-- a call that is refused is of an opened session
refused_first : (log : Log) (session call : ℕ) (text : List ℕ) (refusal : Refusal) → Legal (Refused session call text refusal ∷ log)
    → Each (IsOfFirst (length (sessions log))) (calls log) → session ≤ length (sessions log)
refused_first log session call text refusal l e = elim l.1.may [
  | inl may ↦ may.opened.there
  | inr spent ↦
      let command : Queued = record { session = session; call = call; statement = spent.statement } in
      let asked = queued_call log command (has_from command (queued log) spent.waits) in
      subst (λ s. s ≤ length (sessions log)) asked.is.session
      (each_has (IsOfFirst (length (sessions log))) asked.call (calls log) e asked.there)
]

-- each call of a legal log is of an opened session
pub opened_calls : (log : Log) → Legal log → Each (IsOfFirst (length (sessions log))) (calls log)
opened_calls [] l = tt
opened_calls (Opened name ∷ log) l =
    each_of _ _ (λ c within. let long = length-append (sessions log) (name ∷ []) in omega arith) (calls log) (opened_calls log l.0)
opened_calls (Queue session call statement ∷ log) l = each_one _ (calls log) _ (opened_calls log l.0) l.1.may.opened.there
opened_calls (Read session call peek time statement collection ∷ log) l =
    each_one _ (calls log) _ (opened_calls log l.0) l.1.may.opened.there
opened_calls (Instant session call statement time ∷ log) l = each_one _ (calls log) _ (opened_calls log l.0) l.1.may.opened.there
opened_calls (Refused session call text refusal ∷ log) l =
    let told = reply.Refused refusal in
    let most = length (sessions log) in
    refused_keeps (IsOfFirst most) session call (cluster_of log session) (seen_in session (calls log)) text told (calls log)
    (λ c. kept_first most c (ended session call (λ own. told) c) (ended_keeps session call (λ own. told) (c ∷ [])).0.0)
    (refused_first log session call text refusal l (opened_calls log l.0)) (opened_calls log l.0)
opened_calls (Apply time replies ∷ log) l =
    let most = length (sessions log) in
    each_map (IsOfFirst most) (IsOfFirst most) (replied_in time replies)
    (λ c. kept_first most c (replied_in time replies c) (replied_keeps_sessions time replies (c ∷ [])).0) (calls log) (opened_calls log l.0)
opened_calls (Finish peek rows ∷ log) l =
    let most = length (sessions log) in
    each_map (IsOfFirst most) (IsOfFirst most) (finished peek rows)
    (λ c. kept_first most c (finished peek rows c) (finished_keeps peek rows (c ∷ [])).0.0) (calls log) (opened_calls log l.0)
opened_calls (Cancel session call ∷ log) l =
    let most = length (sessions log) in
    each_map (IsOfFirst most) (IsOfFirst most) (ended session call reply.Cancelled)
    (λ c. kept_first most c (ended session call reply.Cancelled c) (ended_keeps session call reply.Cancelled (c ∷ [])).0.0) (calls log)
    (opened_calls log l.0)
opened_calls (entry ∷ log) l = opened_calls log l.0

-- ---- sessions that weren't opened

-- none of the calls is of a later session
none_own : (most s : ℕ) (cs : List Call) → most < s → Each (IsOfFirst most) cs → calls_of s cs ≡ []
none_own most s cs past e =
    filter_none (λ c. c.stored.session == s) cs (each_of _ _ (λ c within. ne_eqb c.stored.session s (λ same. omega arith)) cs e)

-- which has seen nothing of them
none_seen : (most s : ℕ) (cs : List Call) → most < s → Each (IsOfFirst most) cs → seen_in s cs ≡ 0
none_seen most s [] past e = refl
none_seen most s (c ∷ cs) past e =
    let within = e.0 in
    cond-false (c.stored.session == s) (max c.stored.time (seen_in s cs)) (seen_in s cs) (ne_eqb c.stored.session s (λ same. omega arith))
    ∙ none_seen most s cs past e.1

-- it has made no call
pub unopened_made : (log : Log) → Legal log → (session : ℕ) → length (sessions log) < session → calls_made log session ≡ 0
unopened_made log l session past = ap length (none_own (length (sessions log)) session (calls log) past (opened_calls log l))

-- and waits for none
pub unopened_waits : (log : Log) → Legal log → (session : ℕ) → length (sessions log) < session → outstanding log session ≡ None
unopened_waits log l session past =
    ap (λ cs. option_map (λ call. call.stored.call) (find is_waiting cs))
    (none_own (length (sessions log)) session (calls log) past (opened_calls log l))

-- it has seen no time
pub unopened_seen : (log : Log) → Legal log → (session : ℕ) → length (sessions log) < session → seen log session ≡ 0
unopened_seen log l session past = none_seen (length (sessions log)) session (calls log) past (opened_calls log l)

-- a number that isn't past another isn't one that is
not_past : (own most s : ℕ) → own ≤ most → most < s → (own == s) ≡ false
not_past own most s within past = ne_eqb own s (λ same. omega arith)

-- it is in no transaction
pub unopened_transaction : (log : Log) → Legal log → (session : ℕ) → length (sessions log) < session → transaction log session ≡ None
unopened_transaction [] l session past = refl
unopened_transaction (Opened name ∷ log) l session past =
    let long = length-append (sessions log) (name ∷ []) in unopened_transaction log l.0 session (omega arith)
unopened_transaction (Instant caller call Start time ∷ log) l session past =
    cond-false (caller == session) _ _ (not_past caller (length (sessions log)) session l.1.may.opened.there past)
    ∙ unopened_transaction log l.0 session past
unopened_transaction (Instant caller call Commit time ∷ log) l session past =
    cond-false (caller == session) _ _ (not_past caller (length (sessions log)) session l.1.may.opened.there past)
    ∙ unopened_transaction log l.0 session past
unopened_transaction (Close caller ∷ log) l session past =
    cond-false (caller == session) _ _ (not_past caller (length (sessions log)) session l.1.may.opened.there past)
    ∙ unopened_transaction log l.0 session past
unopened_transaction (entry ∷ log) l session past = unopened_transaction log l.0 session past

-- and isn't closed
pub unopened_closed : (log : Log) → Legal log → (session : ℕ) → length (sessions log) < session → is_closed log session ≡ false
unopened_closed [] l session past = refl
unopened_closed (Opened name ∷ log) l session past =
    let long = length-append (sessions log) (name ∷ []) in unopened_closed log l.0 session (omega arith)
unopened_closed (Close caller ∷ log) l session past =
    cond-false (caller == session) _ _ (not_past caller (length (sessions log)) session l.1.may.opened.there past)
    ∙ unopened_closed log l.0 session past
unopened_closed (entry ∷ log) l session past = unopened_closed log l.0 session past
