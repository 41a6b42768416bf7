-- The times of calls: none is past the read time, and none of a session in a transaction is past the transaction's.
use Rattle.std.proofs.Common.{◌≡◌, ◌⊎◌, ℕ, ◌≤◌, max, Bool, true, false, cond, ◌==◌, List, [], ◌∷◌, ◌++◌, map, find, Option, Some, None, is_none, refl, ap, ◌∙◌, subst, inl, inr, arith}
use Rattle.std.specs.Prelude.{unwrap_or}
use Rattle.std.specs.List.{AllByRecursion as Each, list_any}
use Rattle.std.proofs.lemmas.Bool.{cond-false, cond_both, and_left, eqb-true}
use Rattle.mz_rules.proofs.Each.{each_map, each_of, each_one}
use Rattle.mz_log.specs.declared.entry.Replied.{Replied}
use Rattle.mz_log.specs.declared.reply.Reply.{Reply}
use Rattle.mz_log.specs.Log.{Log}
use Rattle.mz_books.specs.Entries.{Queued, is_reply_to}
use Rattle.mz_books.specs.Rounds.{queued, read_time}
use Rattle.mz_log.specs.Sequential.{Sequential}
use Rattle.mz_log.specs.CarriedOut.{seq}
use Rattle.mz_books.specs.States.{replies_to}
use Rattle.mz_books.specs.Holds.{transaction}
use Rattle.mz_books.specs.Calls.{Call, calls, ended, is_call, new_call, replied_by, replied_in, seen_in, with_refusal}
use Rattle.mz_books.specs.Legal.{Legal, MayApply}
use Rattle.mz_call_laws.specs.Fronts.{IsFront, IsFrontOf}
use Rattle.mz_call_laws.proofs.Front.{NoneOf, open_is_front}
use Rattle.mz_call_laws.proofs.Replied.{IsReplied, replied_keeps}

-- no call of the session is later than this
abbrev pub SessionUntil : ℕ → ℕ → List Call → Type 0
SessionUntil session time cs = Each (λ c. c.stored.session ≡ session → c.stored.time ≤ time) cs

-- the session is in a transaction at this time: it may be read, no command of it waits, and no call of it is later
pub record Inside (log : Log) (session time : ℕ) : Type 0 where
  pub readable : time ≤ read_time log
  pub none_queued : NoneOf session (queued log)
  pub seen : SessionUntil session time (calls log)

-- no call is later than the read time, and sessions are so in their transactions
pub record Timed (log : Log) : Type 0 where
  pub done : Each (λ c. c.stored.time ≤ read_time log) (calls log)
  pub inside : (session time : ℕ) → transaction log session ≡ Some time → Inside log session time

-- a session has seen no later time than all calls
pub seen_until : (session time : ℕ) (cs : List Call) → Each (λ c. c.stored.time ≤ time) cs → seen_in session cs ≤ time
seen_until session time [] u = omega arith
seen_until session time (c ∷ cs) u =
    let rest = seen_until session time cs u.1 in
    let own = u.0 in
    cond_both (c.stored.session == session) (max c.stored.time (seen_in session cs)) (seen_in session cs) (λ n. n ≤ time)
    (λ _. omega arith) (λ _. rest)

-- nor than its own
pub seen_within : (session time : ℕ) (cs : List Call) → SessionUntil session time cs → seen_in session cs ≤ time
seen_within session time [] u = omega arith
seen_within session time (c ∷ cs) u =
    let rest = seen_within session time cs u.1 in
    cond_both (c.stored.session == session) (max c.stored.time (seen_in session cs)) (seen_in session cs) (λ n. n ≤ time)
    (λ test. let own = u.0 (eqb-true c.stored.session session test) in omega arith) (λ _. rest)

-- the time of what is carried out at once may be read
pub at_once_readable : (log : Log) (session : ℕ) (inside : Option ℕ) → transaction log session ≡ inside → Timed log
    → unwrap_or inside (read_time log) ≤ read_time log
at_once_readable log session None is k = omega arith
at_once_readable log session (Some time) is k = (k.inside session time is).readable

-- and no call of its session is later
pub at_once_seen : (log : Log) (session : ℕ) (inside : Option ℕ) → transaction log session ≡ inside → Timed log
    → SessionUntil session (unwrap_or inside (read_time log)) (calls log)
at_once_seen log session None is k = each_of _ _ (λ c until own. until) (calls log) k.done
at_once_seen log session (Some time) is k = (k.inside session time is).seen

-- a transaction that was there before
pub not_ended : (b : Bool) (o : Option ℕ) (time : ℕ) → cond b None o ≡ Some time → o ≡ Some time
not_ended true o time e = absurd (cc)
not_ended false o time e = e

-- a transaction that began now, or was there before
pub begun : (b : Bool) (at time : ℕ) (o : Option ℕ) → cond b (Some at) o ≡ Some time → ((b ≡ true) × (time ≡ at)) ⊎ (o ≡ Some time)
begun true at time o e = inl (refl, cc)
begun false at time o e = inr e

-- a call with a reply of its own time
pub kept_time : (n : ℕ) (before now : Call) → IsReplied (λ c time. time ≡ c.stored.time) before now → before.stored.time ≤ n → now.stored.time ≤ n
kept_time n before now is h = replied_keeps _ (λ c. c.stored.time ≤ n) before now is h (λ time told waits may. omega arith)

-- of a session, likewise
pub kept_own : (session n : ℕ) (before now : Call) → IsReplied (λ c time. time ≡ c.stored.time) before now
    → (before.stored.session ≡ session → before.stored.time ≤ n) → now.stored.session ≡ session → now.stored.time ≤ n
kept_own session n before now is h =
    replied_keeps _ (λ c. c.stored.session ≡ session → c.stored.time ≤ n) before now is h
    (λ time told waits may own. let earlier = h own in omega arith)

-- a call that is refused
pub refused_keeps : (P : Call → Type 0) (session number cluster time : ℕ) (text : List ℕ) (told : Reply) (cs : List Call)
    → ((c : Call) → P c → P (ended session number (λ own. told) c)) → P (new_call session number time text (Some told) None cluster None)
    → Each P cs → Each P (with_refusal session number text told cluster time cs)
refused_keeps P session number cluster time text told cs keep new e =
    cond_both (list_any (is_call session number) cs) (map (ended session number (λ own. told)) cs)
    (cs ++ new_call session number time text (Some told) None cluster None ∷ []) (Each P)
    (λ _. each_map P P (ended session number (λ own. told)) keep cs e) (λ _. each_one P cs _ e new)

-- a round that has no command of the session replies to no call of it
pub none_told : (cluster : ℕ → ℕ) (state : Sequential) (ms : List Queued) (session number : ℕ) → NoneOf session ms
    → find (is_reply_to session number) (replies_to cluster state ms) ≡ None
none_told cluster state [] session number none = refl
none_told cluster state (m ∷ ms) session number none =
    cond-false _ _ _ (and_left (m.session == session) (m.call == number) none.0)
    ∙ none_told cluster (seq state (cluster m.session) m.statement).state ms session number none.1

-- so it leaves them
pub round_leaves : (time : ℕ) (replies : List Replied) (c : Call) → find (is_reply_to c.stored.session c.stored.call) replies ≡ None
    → replied_in time replies c ≡ c
round_leaves time replies c none =
    cond_both (is_none c.stored.reply) (replied_by time (find (is_reply_to c.stored.session c.stored.call) replies) c) c (λ d. d ≡ c)
    (λ _. ap (λ given. replied_by time given c) none) (λ _. refl)

-- the commands of the round that is applied are the first that wait
pub applied_front : (log : Log) (time : ℕ) (replies : List Replied) → Legal log → (may : MayApply log time replies)
    → IsFront may.round.commands (queued log)
applied_front log time replies l may = subst (λ round. IsFrontOf round (queued log)) may.is_open (open_is_front log l)
