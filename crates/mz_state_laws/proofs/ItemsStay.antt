-- Only a CREATE and a DROP that succeed change the items.
use Rattle.std.proofs.Common.{◌≢◌, ℕ, Option, Ok, Err, refl, ap}
use Rattle.mz_statement.specs.declared.statement.Statement.{Statement}
use Rattle.mz_plan.specs.declared.resolved.Resolved.{Resolved}
use Rattle.mz_plan.specs.declared.resolved.Resolved.TheVariants as asked
use Rattle.mz_refusal.specs.declared.refusal.Refusal.{Refusal}
use Rattle.mz_resolution.specs.Resolution.{resolution}
use Rattle.mz_resolution.specs.Steps.{Step}
use Rattle.mz_log.specs.CarriedOut.{Command, Response, carried_or_refused, carried_out, changing, seq}
use Rattle.mz_log.specs.Sequential.{Change, Sequential, after_changes}
use Rattle.mz_log.specs.declared.reply.SeqReply.{SeqReply}
use Rattle.mz_log.specs.declared.reply.SeqReply.TheVariants.{Created, Dropped}
use Rattle.mz_state_laws.specs.Growth.{KeepsItems}
use Rattle.mz_state_laws.specs.Well.{scope_in}
use Rattle.mz_state_laws.proofs.Refusals.{unless_refused}

-- neither a CREATE nor a DROP succeeded
pub record MovesNone (response : Response) : Type 0 where
  pub created : (number : ℕ) → response ≢ Command (Created number)
  pub dropped : response ≢ Command Dropped

-- a state keeps its items
items_same : (state : Sequential) → KeepsItems state state
items_same state = record { items = refl; next = refl; plans = refl }

-- a change that isn't told as it would be if it were made isn't made
not_made : (state : Sequential) (why : Option Refusal) (told : SeqReply) (change : Change) → (changing why told change).response ≢ Command told
    → KeepsItems state (after_changes state (changing why told change).changes)
not_made state why told change other =
    unless_refused state why told change (KeepsItems state) (items_same state)
    (λ none. absurd (other (ap (λ w. (changing w told change).response) none)))

-- so what is asked for keeps them
asked_items : (state : Sequential) (done : Resolved) → MovesNone (carried_out state done).response → KeepsItems state (carried_out state done).state
asked_items state (asked.CreateTable name columns) h = not_made state _ (Created state.database.next) _ (h.created state.database.next)
asked_items state (asked.CreateView name columns query) h = not_made state _ (Created state.database.next) _ (h.created state.database.next)
asked_items state (asked.CreateIndex name on plan cluster) h = not_made state _ (Created state.database.next) _ (h.created state.database.next)
asked_items state (asked.Drop id) h = not_made state _ Dropped _ h.dropped
asked_items state (asked.Insert table rows) h =
    unless_refused state _ _ _ (KeepsItems state) (items_same state) (λ none. record { items = refl; next = refl; plans = refl })
asked_items state (asked.Delete table cond) h = record { items = refl; next = refl; plans = refl }
asked_items state (asked.Query plan) h = items_same state

-- and so does a statement
pub seq_items : (state : Sequential) (cluster : ℕ) (said : Statement)
    → ((number : ℕ) → (seq state cluster said).response ≢ Command (Created number)) → (seq state cluster said).response ≢ Command Dropped
    → KeepsItems state (seq state cluster said).state
unfolding seq
seq_items state cluster said created dropped =
    by (resolution (scope_in state cluster) said) (record { created = created; dropped = dropped })
  where
    by : (step : Step Resolved) → MovesNone (carried_or_refused state step).response → KeepsItems state (carried_or_refused state step).state
    by (Ok done) h = asked_items state done h
    by (Err refusal) h = items_same state
