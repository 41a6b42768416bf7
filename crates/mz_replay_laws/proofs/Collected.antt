-- The collections of a legal log fit its newest state, and keep their plans.
use Rattle.std.proofs.Common.{◌≡◌, ◌+◌, ◌==◌, ℕ, List, [], ◌∷◌, ◌++◌, length, Some, refl, sym, subst, ◌∙◌, arith}
use Rattle.std.proofs.lemmas.Bool.{cond_both, false≢true}
use Rattle.mz_statement.specs.declared.statement.Statement.TheVariants.{Retain}
use Rattle.mz_plan.specs.declared.item.Item.{Item}
use Rattle.mz_plan.specs.declared.item.ItemKind.{ItemKind}
use Rattle.mz_plan.specs.declared.item.ItemKind.TheVariants.{Table, View, Index}
use Rattle.mz_plan.specs.declared.plan.Plan.{Plan}
use Rattle.mz_rules.specs.declared.capability.Collection.{Collection}
use Rattle.mz_log.specs.declared.entry.Entry.TheVariants.{Apply, Read, Instant, Absorbed}
use Rattle.mz_log.specs.Log.{Log}
use Rattle.mz_books.specs.Clusters.{cluster_of}
use Rattle.mz_books.specs.Collections.{advanced, collections, reported, retained, with_change, with_changes, with_item, with_read, without_item}
use Rattle.mz_log.specs.Sequential.{Change, Made, Removed, Moved, Sequential}
use Rattle.mz_books.specs.States.{after_replies, newest_state, round_changes}
use Rattle.mz_books.specs.Legal.{Legal}
use Rattle.mz_replay_laws.proofs.Changes.{change_fits}
use Rattle.mz_replay_laws.proofs.RoundKeeps.{round_keeps}
use Rattle.mz_replay_laws.proofs.Found.{moved_advanced, moved_reported, moved_retained, moved_without, plan_in, plan_more, plan_moved}
use Rattle.mz_replay_laws.proofs.IndexPlans.{Fits, fits_more, fits_moved}
use Rattle.mz_replay_laws.proofs.Said.{round_said}
use Rattle.mz_replay_laws.proofs.Steady.{newest_after}
use Rattle.mz_replay_laws.proofs.WellStates.{states_well}

-- ---- they fit

-- a read adds one that is kept for nobody
read_fits : (state : Sequential) (collection peek cluster : ℕ) (plan : Plan) (time : ℕ) (cs : List Collection) → Fits state cs
    → Fits state (with_read collection peek cluster plan time cs)
read_fits state collection peek cluster plan time cs fits =
    cond_both (collection == length cs + 1) _ cs (Fits state)
    (λ _. fits_more state cs _ refl (λ present. absurd (false≢true present)) fits) (λ _. fits)

-- so the collections fit
pub collections_fit : (log : Log) → Legal log → Fits (newest_state log) (collections log)
collections_fit [] l = record {
  numbers = (omega arith, tt);
  found = (refl, tt);
  plans = ((λ _. record { used = omega arith; own = ((λ is index. absurd (false≢true index)), tt) }), tt);
}
collections_fit (Apply time replies ∷ log) l =
    subst (λ state. Fits state (collections (Apply time replies ∷ log))) (sym (newest_after log time replies l))
    (fits_moved (after_replies (cluster_of log) (newest_state log) replies) (advanced time) (moved_advanced time)
    (with_changes time (collections log) (round_changes log replies))
    (round_keeps time Fits (λ state used change next cs fits. change_fits state used change next time cs fits) (cluster_of log)
    (newest_state log) (collections log) replies (round_said log time replies l)
    (states_well log l.0 _) (collections_fit log l.0)))
collections_fit (Read session call peek time statement collection ∷ log) l =
    read_fits (newest_state log) collection peek _ _ time (collections log) (collections_fit log l.0)
collections_fit (Absorbed replica incarnation turn taken ready frontiers ∷ log) l =
    fits_moved (newest_state log) (reported frontiers) (moved_reported frontiers) (collections log) (collections_fit log l.0)
collections_fit (Instant session call (Retain name keep) time ∷ log) l =
    fits_moved (newest_state log) (retained name keep) (moved_retained name keep) (collections log) (collections_fit log l.0)
collections_fit (entry ∷ log) l = let k = collections_fit log l.0 in record { numbers = k.numbers; found = k.found; plans = k.plans }

-- ---- they keep their plans

-- an item that is made
found_item : (number : ℕ) (plan : Plan) (time : ℕ) (cs : List Collection) (item : Item) (kind : ItemKind) → plan_in number cs ≡ Some plan
    → plan_in number (with_item time cs item kind) ≡ Some plan
found_item number plan time cs item (Table columns) h = plan_more number plan cs _ h
found_item number plan time cs item (Index on own) h = plan_more number plan cs _ h
found_item number plan time cs item (View columns query) h = h

-- a change
found_change : (number : ℕ) (plan : Plan) (time : ℕ) (cs : List Collection) (change : Change) → plan_in number cs ≡ Some plan
    → plan_in number (with_change time cs change) ≡ Some plan
found_change number plan time cs (Made item) h = found_item number plan time cs item item.kind h
found_change number plan time cs (Removed id) h = plan_moved (without_item id) (moved_without id) number cs ∙ h
found_change number plan time cs (Moved table rows) h = h

-- the changes of a round
found_changes : (number : ℕ) (plan : Plan) (time : ℕ) (cs : List Collection) (changes : List Change) → plan_in number cs ≡ Some plan
    → plan_in number (with_changes time cs changes) ≡ Some plan
found_changes number plan time cs [] h = h
found_changes number plan time cs (change ∷ changes) h =
    found_changes number plan time (with_change time cs change) changes (found_change number plan time cs change h)

-- a read
pub found_read : (number : ℕ) (plan : Plan) (collection peek cluster : ℕ) (own : Plan) (time : ℕ) (cs : List Collection) → plan_in number cs ≡ Some plan
    → plan_in number (with_read collection peek cluster own time cs) ≡ Some plan
found_read number plan collection peek cluster own time cs h =
    cond_both (collection == length cs + 1) _ cs (λ ds. plan_in number ds ≡ Some plan) (λ _. plan_more number plan cs _ h) (λ _. h)

-- so what is found in a log is found in a longer one
pub found_stays : (log later : Log) (number : ℕ) (plan : Plan) → plan_in number (collections log) ≡ Some plan
    → plan_in number (collections (later ++ log)) ≡ Some plan
found_stays log [] number plan h = h
found_stays log (Apply time replies ∷ later) number plan h =
    plan_moved (advanced time) (moved_advanced time) number _
    ∙ found_changes number plan time (collections (later ++ log)) (round_changes (later ++ log) replies) (found_stays log later number plan h)
found_stays log (Read session call peek time statement collection ∷ later) number plan h =
    found_read number plan collection peek _ _ time (collections (later ++ log)) (found_stays log later number plan h)
found_stays log (Absorbed replica incarnation turn taken ready frontiers ∷ later) number plan h =
    plan_moved (reported frontiers) (moved_reported frontiers) number (collections (later ++ log)) ∙ found_stays log later number plan h
found_stays log (Instant session call (Retain name keep) time ∷ later) number plan h =
    plan_moved (retained name keep) (moved_retained name keep) number (collections (later ++ log)) ∙ found_stays log later number plan h
found_stays log (entry ∷ later) number plan h = found_stays log later number plan h
