-- What each change keeps of a state and its collections, a round keeps.
use Rattle.std.proofs.Common.{◌≡◌, ◌<◌, ℕ, List, [], ◌∷◌, ◌++◌, Option, None, Some, Ok, Err, refl, sym, subst}
use Rattle.std.proofs.lemmas.List.Elements.{recursion_from_All}
use Rattle.std.specs.List.{AllByRecursion as Each}
use Rattle.mz_statement.specs.Statement.{IsStatement}
use Rattle.mz_statement.specs.declared.statement.Statement.{Statement}
use Rattle.mz_plan.specs.declared.resolved.Resolved.{Resolved}
use Rattle.mz_plan.specs.declared.resolved.Resolved.TheVariants as asked
use Rattle.mz_refusal.specs.declared.refusal.Refusal.{Refusal}
use Rattle.mz_resolution.specs.Resolution.{resolution}
use Rattle.mz_resolution.specs.Steps.{Step}
use Rattle.mz_rules.specs.declared.capability.Collection.{Collection}
use Rattle.mz_log.specs.declared.entry.Replied.{Replied}
use Rattle.mz_log.specs.declared.reply.SeqReply.{SeqReply}
use Rattle.mz_log.specs.CarriedOut.{carried_or_refused, carried_out, changing, seq}
use Rattle.mz_log.specs.Sequential.{Change, Sequential, after_changes}
use Rattle.mz_books.specs.Collections.{with_change, with_changes}
use Rattle.mz_books.specs.States.{after_replies, changes_by}
use Rattle.mz_state_laws.specs.Well.{IsWell, scope_in}
use Rattle.mz_replay_laws.proofs.WellStates.{statement_well}
use Rattle.mz_replay_laws.proofs.Changes.{AreUsed, IsNext}

-- ---- one statement

-- at most one thing is changed
abbrev IsSmall : Sequential → List Change → Type 0
IsSmall state [] = Unit {0}
IsSmall state (change ∷ []) = IsNext state change
IsSmall state (change ∷ other ∷ more) = ⊥

-- a change, unless it is refused
changing_small : (state : Sequential) (why : Option Refusal) (told : SeqReply) (change : Change) → IsNext state change
    → IsSmall state (changing why told change).changes
changing_small state None told change next = next
changing_small state (Some refusal) told change next = tt

-- a statement whose names are resolved
asked_small : (state : Sequential) (done : Resolved) → IsSmall state (carried_out state done).changes
asked_small state (asked.CreateTable name columns) = changing_small state _ _ _ refl
asked_small state (asked.CreateView name columns query) = changing_small state _ _ _ refl
asked_small state (asked.CreateIndex name on plan cluster) = changing_small state _ _ _ refl
asked_small state (asked.Drop id) = changing_small state _ _ _ tt
asked_small state (asked.Insert table rows) = changing_small state _ _ _ tt
asked_small state (asked.Delete table cond) = tt
asked_small state (asked.Query plan) = tt

-- any statement
seq_small : (state : Sequential) (cluster : ℕ) (said : Statement) → IsSmall state (seq state cluster said).changes
unfolding seq
seq_small state cluster said = by (resolution (scope_in state cluster) said)
  where
    by : (step : Step Resolved) → IsSmall state (carried_or_refused state step).changes
    by (Ok done) = asked_small state done
    by (Err refusal) = tt

-- it leaves the state that its changes leave
seq_state : (state : Sequential) (cluster : ℕ) (said : Statement) → (seq state cluster said).state ≡ after_changes state (seq state cluster said).changes
unfolding seq
seq_state state cluster said = by (resolution (scope_in state cluster) said)
  where
    by : (step : Step Resolved) → (carried_or_refused state step).state ≡ after_changes state (carried_or_refused state step).changes
    by (Ok done) = refl
    by (Err refusal) = refl

-- ---- what is kept

-- what is so of a state and collections is so after each change that makes the next item, where each item has a number that was used
abbrev pub IsKeptBy : ℕ → (Sequential → List Collection → Type 0) → Type 0
IsKeptBy time P = (state : Sequential) → AreUsed state → (change : Change) → IsNext state change → (cs : List Collection) → P state cs
    → P (after_changes state (change ∷ [])) (with_change time cs change)

-- then it is so after a few changes
small_keeps : (time : ℕ) (P : Sequential → List Collection → Type 0) → IsKeptBy time P → (state : Sequential) → AreUsed state
    → (changes : List Change) → IsSmall state changes → (cs : List Collection) → P state cs
    → P (after_changes state changes) (with_changes time cs changes)
small_keeps time P kept state used [] small cs p = p
small_keeps time P kept state used (change ∷ []) small cs p = kept state used change small cs p
small_keeps time P kept state used (change ∷ other ∷ more) small cs p = absurd small

-- after a statement
statement_keeps : (time : ℕ) (P : Sequential → List Collection → Type 0) → IsKeptBy time P → (state : Sequential) → IsWell state
    → (cluster : ℕ) (said : Statement) (cs : List Collection) → P state cs
    → P (seq state cluster said).state (with_changes time cs (seq state cluster said).changes)
statement_keeps time P kept state well cluster said cs p =
    subst (λ after. P after (with_changes time cs (seq state cluster said).changes)) (sym (seq_state state cluster said))
    (small_keeps time P kept state (recursion_from_All (λ item. item.id < state.database.next) state.database.items well.over.below)
    (seq state cluster said).changes (seq_small state cluster said) cs p)

-- changes and more changes
with_both : (time : ℕ) (cs : List Collection) (some more : List Change)
    → with_changes time cs (some ++ more) ≡ with_changes time (with_changes time cs some) more
with_both time cs [] more = refl
with_both time cs (change ∷ some) more = with_both time (with_change time cs change) some more

-- and after a round
pub round_keeps : (time : ℕ) (P : Sequential → List Collection → Type 0) → IsKeptBy time P → (cluster : ℕ → ℕ) (state : Sequential)
    (cs : List Collection) (replies : List Replied) → Each (λ replied. IsStatement replied.statement) replies → IsWell state → P state cs
    → P (after_replies cluster state replies) (with_changes time cs (changes_by cluster state replies))
round_keeps time P kept cluster state cs [] said well p = p
round_keeps time P kept cluster state cs (replied ∷ replies) said well p =
    let done = seq state (cluster replied.session) replied.statement in
    subst (P (after_replies cluster done.state replies)) (sym (with_both time cs done.changes (changes_by cluster done.state replies)))
    (round_keeps time P kept cluster done.state (with_changes time cs done.changes) replies said.1
    (statement_well state well (cluster replied.session) replied.statement said.0)
    (statement_keeps time P kept state well (cluster replied.session) replied.statement cs p))
