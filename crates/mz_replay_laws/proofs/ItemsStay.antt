-- From the last CREATE or DROP on the items and the plans of indexes are the newest.
use Rattle.std.proofs.Common.{◌≡◌, ℕ, ◌<◌, ◌≤◌, inl, inr, true, false, cond, Bool, List, [], ◌∷◌, refl, sym, ap, subst, ◌∙◌, true≢false}
use Rattle.std.proofs.lemmas.Bool.{cases_lt, cond-false, lt-leb, or_parts}
use Rattle.std.specs.List.{list_any}
use Rattle.mz_statement.specs.declared.statement.Statement.{Statement}
use Rattle.mz_log.specs.declared.entry.Entry.TheVariants.{Apply}
use Rattle.mz_log.specs.declared.entry.Replied.{Replied}
use Rattle.mz_log.specs.Log.{Log}
use Rattle.mz_books.specs.Entries.{Queued}
use Rattle.mz_books.specs.Clusters.{cluster_of}
use Rattle.mz_books.specs.Rounds.{ddl, moves_items, read_time}
use Rattle.mz_log.specs.CarriedOut.{seq}
use Rattle.mz_log.specs.Sequential.{Sequential}
use Rattle.mz_books.specs.States.{after_replies, newest_state, replies_to, round_reply, state_at}
use Rattle.mz_books.specs.Legal.{Legal}
use Rattle.mz_state_laws.specs.Growth.{KeepsItems}
use Rattle.mz_state_laws.proofs.ItemsStay.{seq_items}
use Rattle.mz_replay_laws.specs.Well.{IsNewest}
use Rattle.mz_replay_laws.proofs.Steady.{newest_after, steady}

-- a statement that makes and removes no item
quiet_one : (state : Sequential) (cluster : ℕ) (said : Statement) → moves_items (round_reply (seq state cluster said).response) ≡ false
    → KeepsItems state (seq state cluster said).state
quiet_one state cluster said quiet =
    seq_items state cluster said
    (λ number made. true≢false (sym (ap (λ told. moves_items (round_reply told)) made) ∙ quiet))
    (λ removed. true≢false (sym (ap (λ told. moves_items (round_reply told)) removed) ∙ quiet))

-- a round that makes and removes none
quiet_round : (cluster : ℕ → ℕ) (state : Sequential) (commands : List Queued)
    → list_any (λ replied. moves_items replied.reply) (replies_to cluster state commands) ≡ false
    → KeepsItems state (after_replies cluster state (replies_to cluster state commands))
quiet_round cluster state [] quiet = record { items = refl; next = refl; plans = refl }
quiet_round cluster state (command ∷ commands) quiet =
    let parts = or_parts _ _ quiet in
    let first = quiet_one state (cluster command.session) command.statement parts.0 in
    let rest = quiet_round cluster (seq state (cluster command.session) command.statement).state commands parts.1 in
    record { items = rest.items ∙ first.items; next = rest.next ∙ first.next; plans = rest.plans ∙ first.plans }

-- from the read time on the state is the newest
newest_late : (log : Log) → Legal log → (time : ℕ) → read_time log ≤ time → IsNewest log time
newest_late log l t h = record { items = ap (λ s. s.database.items) (steady log l t h); plans = ap (λ s. s.plans) (steady log l t h) }

-- a time before a round that made and removed no item
before_quiet : (log : Log) (time : ℕ) (replies : List Replied) → Legal (Apply time replies ∷ log) → (t : ℕ) → t < time
    → list_any (λ replied. moves_items replied.reply) replies ≡ false → IsNewest log t → IsNewest (Apply time replies ∷ log) t
before_quiet log time replies l t before quiet newest =
    let may = l.1.may in
    let keeps : KeepsItems (newest_state log) (after_replies (cluster_of log) (newest_state log) replies) =
    subst (λ rs. KeepsItems (newest_state log) (after_replies (cluster_of log) (newest_state log) rs)) (sym may.own_replies)
    (quiet_round (cluster_of log) (newest_state log) may.round.commands
    (subst (λ rs. list_any (λ replied. moves_items replied.reply) rs ≡ false) may.own_replies quiet)) in
    let now = newest_after log time replies l in
    let then_ : state_at (Apply time replies ∷ log) t ≡ state_at log t = cond-false _ _ _ (lt-leb time t before) in
    record {
      items = ap (λ s. s.database.items) then_ ∙ newest.items ∙ sym keeps.items ∙ sym (ap (λ s. s.database.items) now);
      plans = ap (λ s. s.plans) then_ ∙ newest.plans ∙ sym keeps.plans ∙ sym (ap (λ s. s.plans) now);
    }

-- a round, where it is known what held before it
newest_round : (log : Log) (time : ℕ) (replies : List Replied) → Legal (Apply time replies ∷ log) → (t : ℕ) → (b : Bool)
    → list_any (λ replied. moves_items replied.reply) replies ≡ b → cond b time (ddl log) ≤ t → (ddl log ≤ t → IsNewest log t)
    → IsNewest (Apply time replies ∷ log) t
newest_round log time replies l t true moved since earlier = newest_late (Apply time replies ∷ log) l t since
newest_round log time replies l t false quiet since earlier =
    elim (cases_lt t time) [
      | inl before ↦ before_quiet log time replies l t before quiet (earlier since)
      | inr late ↦ newest_late (Apply time replies ∷ log) l t late
    ]

-- so from the last CREATE or DROP on items and plans are the newest
pub newest_from_ddl : (log : Log) → Legal log → (time : ℕ) → ddl log ≤ time → IsNewest log time
newest_from_ddl [] l t h = record { items = refl; plans = refl }
newest_from_ddl (Apply time replies ∷ log) l t h =
    newest_round log time replies l t (list_any (λ replied. moves_items replied.reply) replies) refl h (newest_from_ddl log l.0 t)
newest_from_ddl (entry ∷ log) l t h = let k = newest_from_ddl log l.0 t h in record { items = k.items; plans = k.plans }
