-- The times of calls, and of transactions, entry by entry.
use Rattle.std.proofs.Common.{◌≡◌, ◌⊎◌, ℕ, ◌<◌, ◌≤◌, true, ◌==◌, List, ◌∷◌, find, Some, None, refl, sym, ap, ◌∙◌, subst, inl, inr, arith, le_of_eq}
use Rattle.std.specs.Prelude.{unwrap_or}
use Rattle.std.specs.List.{AllByRecursion as Each}
use Rattle.std.proofs.lemmas.Bool.{eqb-true, ne_eqb}
use Rattle.mz_rules.proofs.Each.{each_left, each_one}
use Rattle.mz_statement.specs.declared.statement.Statement.{Statement}
use Rattle.mz_statement.specs.declared.statement.Statement.TheVariants.{Start}
use Rattle.mz_log.specs.declared.entry.Entry.TheVariants.{Queue, Apply, Read, Instant}
use Rattle.mz_log.specs.declared.entry.Replied.{Replied}
use Rattle.mz_log.specs.Log.{Log}
use Rattle.mz_books.specs.Entries.{is_reply_to}
use Rattle.mz_books.specs.Rounds.{queued, read_time}
use Rattle.mz_books.specs.Clusters.{cluster_of}
use Rattle.mz_books.specs.States.{newest_state}
use Rattle.mz_books.specs.Holds.{transaction}
use Rattle.mz_books.specs.Calls.{Call, calls, replied_in}
use Rattle.mz_books.specs.Answer.{as_of}
use Rattle.mz_books.specs.Legal.{Legal, MayCall}
use Rattle.mz_call_laws.proofs.Accepted.{made_is}
use Rattle.mz_call_laws.proofs.Front.{NoneOf, none_queued}
use Rattle.mz_call_laws.proofs.Replied.{replied_is, replied_keeps}
use Rattle.mz_call_laws.proofs.Transactions.{Inside, SessionUntil, Timed, applied_front, at_once_readable, at_once_seen, none_told, round_leaves, seen_until}

-- a command that is queued: its session is in no transaction
pub queue_timed : (log : Log) (session number : ℕ) (statement : Statement) → MayCall log session (Queue session number statement)
    → Timed log → Timed (Queue session number statement ∷ log)
queue_timed log session number statement may k =
    let free = (made_is log session (Queue session number statement) may).is.free in
    let apart : (other time : ℕ) → transaction log other ≡ Some time → session ≡ other → ⊥
    = λ other time is same. let both : None ≡ Some time = sym free ∙ ap (transaction log) same ∙ is in cc in
    record {
      done = each_one _ (calls log) _ k.done (seen_until session (read_time log) (calls log) k.done);
      inside = λ other time is. record {
        readable = (k.inside other time is).readable;
        none_queued = each_one _ (queued log) _ (k.inside other time is).none_queued (ne_eqb session other (apart other time is));
        seen = each_one _ (calls log) _ (k.inside other time is).seen (λ own. absurd (apart other time is own));
      };
    }

-- a read, at the time of the transaction where its session is in one
pub read_timed : (log : Log) (session number peek time : ℕ) (statement : Statement) (collection : ℕ)
    → MayCall log session (Read session number peek time statement collection)
    → Timed log → Timed (Read session number peek time statement collection ∷ log)
read_timed log session number peek time statement collection may k =
    let is_read = (made_is log session (Read session number peek time statement collection) may).is in
    record {
      done = each_one _ (calls log) _ k.done is_read.readable;
      inside = λ other at is. record {
        readable = (k.inside other at is).readable;
        none_queued = (k.inside other at is).none_queued;
        seen = each_one _ (calls log) _ (k.inside other at is).seen
            (λ own. le_of_eq (is_read.picked
            ∙ ap (λ o. unwrap_or o (unwrap_or (as_of statement) (read_time log))) (ap (transaction log) own ∙ is)));
      };
    }

-- what is carried out at once, for a transaction that was there before
pub instant_inside : (log : Log) (session number time : ℕ) (statement : Statement)
    → MayCall log session (Instant session number statement time) → Timed log
    → (other at : ℕ) → transaction log other ≡ Some at → Inside (Instant session number statement time ∷ log) other at
instant_inside log session number time statement may k other at is =
    let at_once = (made_is log session (Instant session number statement time) may).is in
    record {
      readable = (k.inside other at is).readable;
      none_queued = (k.inside other at is).none_queued;
      seen = each_one _ (calls log) _ (k.inside other at is).seen
          (λ own. le_of_eq (at_once.own_time ∙ ap (λ o. unwrap_or o (read_time log)) (ap (transaction log) own ∙ is)));
    }

-- its own time may be read
pub instant_done : (log : Log) (session number time : ℕ) (statement : Statement)
    → MayCall log session (Instant session number statement time) → Timed log
    → Each (λ c. c.stored.time ≤ read_time log) (calls (Instant session number statement time ∷ log))
instant_done log session number time statement may k =
    let own = (made_is log session (Instant session number statement time) may).is.own_time in
    let may_read = at_once_readable log session (transaction log session) refl k in
    each_one _ (calls log) _ k.done (omega arith)

-- a BEGIN puts its session into a transaction
start_inside : (log : Log) (session number time : ℕ) → MayCall log session (Instant session number Start time) → Timed log
    → Inside (Instant session number Start time ∷ log) session time
start_inside log session number time may k =
    let made = made_is log session (Instant session number Start time) may in
    let own = made.is.own_time in
    let may_read = at_once_readable log session (transaction log session) refl k in
    record {
      readable = omega arith;
      none_queued = none_queued log session made.none_waits;
      seen = each_one _ (calls log) _
          (subst (λ t. SessionUntil session t (calls log)) (sym own) (at_once_seen log session (transaction log session) refl k))
          (λ _. le_of_eq refl);
    }

-- of the session that begins, or another
pub start_or_before : (log : Log) (session number time : ℕ) → MayCall log session (Instant session number Start time) → Timed log
    → (other at : ℕ) → ((session == other) ≡ true) × (at ≡ time) ⊎ (transaction log other ≡ Some at)
    → Inside (Instant session number Start time ∷ log) other at
start_or_before log session number time may k other at (inl now) =
    subst (λ s. Inside (Instant session number Start time ∷ log) s at) (eqb-true session other now.0)
    (subst (Inside (Instant session number Start time ∷ log) session) (sym now.1) (start_inside log session number time may k))
start_or_before log session number time may k other at (inr before) = instant_inside log session number time Start may k other at before

-- what a round does with the calls of a session that is in a transaction: nothing
pub round_own : (log : Log) (time : ℕ) (replies : List Replied) → Legal (Apply time replies ∷ log) → (session at : ℕ) → NoneOf session (queued log)
    → (c : Call) → (c.stored.session ≡ session → c.stored.time ≤ at)
    → (replied_in time replies c).stored.session ≡ session → (replied_in time replies c).stored.time ≤ at
round_own log time replies l session at none c until own =
    let may = l.1.may in
    let front = applied_front log time replies l.0 may in
    let mine : c.stored.session ≡ session =
    replied_keeps (λ _ _. Unit {0}) (λ d. d.stored.session ≡ session → c.stored.session ≡ session) c (replied_in time replies c)
    (replied_is (λ _ _. Unit {0}) time replies c (λ _ _ _. tt)) (λ h. h) (λ _ _ _ _ h. h) own in
    let kept : NoneOf session may.round.commands = each_left _ may.round.commands front.behind (subst (NoneOf session) front.is none) in
    let untold : find (is_reply_to c.stored.session c.stored.call) replies ≡ None =
    ap (λ s. find (is_reply_to s c.stored.call) replies) mine ∙ ap (find (is_reply_to session c.stored.call)) may.own_replies
    ∙ none_told (cluster_of log) (newest_state log) may.round.commands session c.stored.call kept in
    subst (λ d. d.stored.time ≤ at) (sym (round_leaves time replies c untold)) (until mine)

-- a round gives its own time at most
pub round_done : (read time : ℕ) (replies : List Replied) (c : Call) → read < time → c.stored.time ≤ read
    → (replied_in time replies c).stored.time ≤ time
round_done read time replies c later until =
    replied_keeps (λ _ at. at ≡ time) (λ d. d.stored.time ≤ time) c (replied_in time replies c)
    (replied_is (λ _ at. at ≡ time) time replies c (λ _ _ _. refl)) (omega arith) (λ at told waits own. le_of_eq own)
