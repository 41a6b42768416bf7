-- What is in the catalog was made by the time of the last CREATE or DROP.
use Rattle.std.specs.Prelude.{⊤}
use Rattle.std.proofs.Common.{◌≡◌, ℕ, ◌≤◌, Bool, true, false, cond, List, [], ◌∷◌, ◌++◌, map, Option, None, Some, Ok, Err, refl, sym, subst, ◌∙◌, arith}
use Rattle.std.specs.List.{AllByRecursion as Each, list_any}
use Rattle.std.proofs.lemmas.Bool.{false≢true, or_parts}
use Rattle.mz_statement.specs.declared.statement.Statement.{Statement}
use Rattle.mz_statement.specs.declared.statement.Statement.TheVariants.{Retain}
use Rattle.mz_plan.specs.declared.resolved.Resolved.{Resolved}
use Rattle.mz_plan.specs.declared.resolved.Resolved.TheVariants as asked
use Rattle.mz_refusal.specs.declared.refusal.Refusal.{Refusal}
use Rattle.mz_resolution.specs.Resolution.{resolution}
use Rattle.mz_resolution.specs.Steps.{Step}
use Rattle.mz_rules.specs.Numbering.{Moved}
use Rattle.mz_rules.specs.declared.capability.Collection.{Collection}
use Rattle.mz_rules.proofs.Each.{each_append, each_map, each_of, each_one}
use Rattle.mz_rules.proofs.FrontierLemmas.{at_earlier}
use Rattle.mz_log.specs.CarriedOut.{carried_or_refused, carried_out, changing, seq}
use Rattle.mz_log.specs.Sequential as changes
use Rattle.mz_log.specs.Sequential.{Change, Sequential}
use Rattle.mz_log.specs.declared.entry.Entry.TheVariants.{Apply, Read, Instant, Absorbed}
use Rattle.mz_log.specs.declared.entry.Replied.{Replied}
use Rattle.mz_log.specs.declared.reply.SeqReply.{SeqReply}
use Rattle.mz_log.specs.Log.{Log}
use Rattle.mz_books.specs.Clusters.{cluster_of}
use Rattle.mz_books.specs.Entries.{Queued}
use Rattle.mz_books.specs.Rounds.{ddl, moves_items}
use Rattle.mz_books.specs.States.{changes_by, newest_state, replies_to, round_changes, round_reply}
use Rattle.mz_books.specs.Collections.{advanced, collections, is_in_catalog, reported, retained, with_changes, without_item}
use Rattle.mz_books.specs.Legal.{Legal}
use Rattle.mz_state_laws.specs.Well.{scope_in}
use Rattle.mz_safe_laws.proofs.Moves.{advanced_moved, dropped_moved, reported_moved, retained_moved}
use Rattle.mz_safe_laws.proofs.Onward.{IsTimely}
use Rattle.mz_safe_laws.proofs.Sound.{sound}

-- ---- changes that make nothing

-- the change makes no item
abbrev IsStill : Change → Type 0
IsStill (changes.Made item) = ⊥
IsStill change = ⊤

-- one that is replied as no CREATE
changing_still : (why : Option Refusal) (told : SeqReply) (change : Change) → (moves_items told ≡ false → IsStill change)
    → moves_items (round_reply (changing why told change).response) ≡ false → Each IsStill (changing why told change).changes
changing_still None told change h quiet = (h quiet, tt)
changing_still (Some refusal) told change h quiet = tt

-- a statement whose names are resolved
asked_still : (state : Sequential) (done : Resolved) → moves_items (round_reply (carried_out state done).response) ≡ false
    → Each IsStill (carried_out state done).changes
asked_still state (asked.CreateTable name columns) quiet = changing_still _ _ _ (λ e. absurd (false≢true (sym e))) quiet
asked_still state (asked.CreateView name columns query) quiet = changing_still _ _ _ (λ e. absurd (false≢true (sym e))) quiet
asked_still state (asked.CreateIndex name on plan cluster) quiet = changing_still _ _ _ (λ e. absurd (false≢true (sym e))) quiet
asked_still state (asked.Drop id) quiet = changing_still _ _ _ (λ e. tt) quiet
asked_still state (asked.Insert table rows) quiet = changing_still _ _ _ (λ e. tt) quiet
asked_still state (asked.Delete table cond) quiet = (tt, tt)
asked_still state (asked.Query plan) quiet = tt

-- any statement
seq_still : (state : Sequential) (cluster : ℕ) (said : Statement) → moves_items (round_reply (seq state cluster said).response) ≡ false
    → Each IsStill (seq state cluster said).changes
unfolding seq
seq_still state cluster said = by (resolution (scope_in state cluster) said)
  where
    by : (step : Step Resolved) → moves_items (round_reply (carried_or_refused state step).response) ≡ false
        → Each IsStill (carried_or_refused state step).changes
    by (Ok done) quiet = asked_still state done quiet
    by (Err refusal) quiet = tt

-- a round
round_still : (cluster : ℕ → ℕ) (state : Sequential) (commands : List Queued)
    → list_any (λ replied. moves_items replied.reply) (replies_to cluster state commands) ≡ false
    → Each IsStill (changes_by cluster state (replies_to cluster state commands))
round_still cluster state [] quiet = tt
round_still cluster state (command ∷ commands) quiet =
    let parts = or_parts _ _ quiet in
    let done = seq state (cluster command.session) command.statement in
    each_append IsStill done.changes (changes_by cluster done.state (replies_to cluster done.state commands))
    (seq_still state (cluster command.session) command.statement parts.0) (round_still cluster done.state commands parts.1)

-- ---- as-ofs

-- if the collection is in the catalog, it was made by this time
abbrev pub IsMadeBy : ℕ → Collection → Type 0
IsMadeBy time c = is_in_catalog c ≡ true → c.as_of ≤ time

-- so it is once it has moved
made_moved : (time : ℕ) (c d : Collection) → Moved c d → IsMadeBy time c → IsMadeBy time d
made_moved time c d m h here = let early = h (at_earlier c.implied d.implied m.raises here) in omega (arith, early, m.same_as_of)

-- changes that make nothing
still_made : (w time : ℕ) (cs : List Collection) (all : List Change) → Each IsStill all → Each (IsMadeBy time) cs
    → Each (IsMadeBy time) (with_changes w cs all)
still_made w time cs [] still h = h
still_made w time cs (changes.Made item ∷ all) still h = absurd still.0
still_made w time cs (changes.Removed item ∷ all) still h =
    still_made w time (map (without_item item) cs) all still.1
    (each_map (IsMadeBy time) (IsMadeBy time) (without_item item) (λ c q. made_moved time c (without_item item c) (dropped_moved item c) q) cs h)
still_made w time cs (changes.Moved table rows ∷ all) still h = still_made w time cs all still.1 h

-- a read adds what isn't in the catalog
read_made : (time : ℕ) (cs : List Collection) (new : Collection) → is_in_catalog new ≡ false → Each (IsMadeBy time) cs → (which : Bool)
    → Each (IsMadeBy time) (cond which (cs ++ new ∷ []) cs)
read_made time cs new other h true = each_one (IsMadeBy time) cs new h (λ here. absurd (false≢true (sym other ∙ here)))
read_made time cs new other h false = h

-- a round, where it made or removed an item and where it didn't
round_made : (log : Log) (time : ℕ) (replies : List Replied) → Legal (Apply time replies ∷ log) → Each (IsMadeBy (ddl log)) (collections log)
    → (moved : Bool) → list_any (λ replied. moves_items replied.reply) replies ≡ moved
    → Each (IsMadeBy (cond moved time (ddl log))) (collections (Apply time replies ∷ log))
round_made log time replies l h true is =
    each_of (IsTimely time) (IsMadeBy time) (λ c t here. t.created) (collections (Apply time replies ∷ log))
    (sound (Apply time replies ∷ log) l).core.timely
round_made log time replies l h false is =
    let may = l.1.may in
    let all = with_changes time (collections log) (round_changes log replies) in
    let still : Each IsStill (round_changes log replies) =
    subst (λ rs. Each IsStill (round_changes log rs)) (sym may.own_replies)
    (round_still (cluster_of log) (newest_state log) may.round.commands
    (subst (λ rs. list_any (λ replied. moves_items replied.reply) rs ≡ false) may.own_replies is)) in
    each_map (IsMadeBy (ddl log)) (IsMadeBy (ddl log)) (advanced time) (λ c q. made_moved (ddl log) c (advanced time c) (advanced_moved time c) q) all
    (still_made time (ddl log) (collections log) (round_changes log replies) still h)

-- so what is in the catalog was made by the last CREATE or DROP
pub made_by_ddl : (log : Log) → Legal log → Each (IsMadeBy (ddl log)) (collections log)
made_by_ddl [] l = ((λ here. omega arith), tt)
made_by_ddl (Apply time replies ∷ log) l =
    round_made log time replies l (made_by_ddl log l.0) (list_any (λ replied. moves_items replied.reply) replies) refl
made_by_ddl (Read session call peek time statement collection ∷ log) l =
    read_made (ddl log) (collections log) _ refl (made_by_ddl log l.0) _
made_by_ddl (Absorbed replica incarnation turn taken ready frontiers ∷ log) l =
    each_map (IsMadeBy (ddl log)) (IsMadeBy (ddl log)) (reported frontiers)
    (λ c q. made_moved (ddl log) c (reported frontiers c) (reported_moved frontiers c) q) (collections log) (made_by_ddl log l.0)
made_by_ddl (Instant session call (Retain name keep) time ∷ log) l =
    each_map (IsMadeBy (ddl log)) (IsMadeBy (ddl log)) (retained name keep)
    (λ c q. made_moved (ddl log) c (retained name keep c) (retained_moved name keep c) q) (collections log) (made_by_ddl log l.0)
made_by_ddl (entry ∷ log) l = made_by_ddl log l.0
