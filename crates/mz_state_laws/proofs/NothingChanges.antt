-- Queries and refusals change nothing.
use Rattle.std.proofs.Common.{◌≡◌, ◌≢◌, ℕ, true, List, [], Option, None, Some, Ok, Err, refl, ap, ◌∙◌}
use Rattle.std.specs.Prelude.{IfOk}
use Rattle.mz_statement.specs.Kind.{kind_of}
use Rattle.mz_statement.specs.declared.statement.Statement.{Statement}
use Rattle.mz_plan.specs.declared.resolved.Resolved.{Resolved}
use Rattle.mz_plan.specs.declared.resolved.Resolved.TheVariants as asked
use Rattle.mz_refusal.specs.declared.refusal.Refusal.{Refusal}
use Rattle.mz_resolution.specs.Resolution.{resolution}
use Rattle.mz_resolution.specs.Steps.{Step}
use Rattle.mz_log.specs.CarriedOut.{Command, carried_or_refused, carried_out, changing, seq}
use Rattle.mz_log.specs.Sequential.{Change, Sequential, after_changes}
use Rattle.mz_log.specs.declared.reply.SeqReply.{SeqReply}
use Rattle.mz_log.specs.declared.reply.SeqReply.TheVariants as told
use Rattle.mz_state_laws.specs.Kinds.{is_query, is_read}
use Rattle.mz_state_laws.specs.Unchanged.{IsUnchanged}
use Rattle.mz_state_laws.specs.Well.{scope_in}
use Rattle.mz_state_laws.proofs.KindLaws.{asks_by_kind}

-- what has no changes leaves the state
still : (state : Sequential) (changes : List Change) → changes ≡ [] → after_changes state changes ≡ state
still state changes none = ap (after_changes state) none

-- ---- queries

-- what asks for rows changes nothing
query_still : (state : Sequential) (done : Resolved) → is_query done ≡ true → IsUnchanged state (carried_out state done)
query_still state (asked.Query plan) h = record { state = refl; changes = refl }
query_still state (asked.CreateTable name columns) h = cc
query_still state (asked.CreateView name columns query) h = cc
query_still state (asked.CreateIndex name on plan cluster) h = cc
query_still state (asked.Drop id) h = cc
query_still state (asked.Insert table rows) h = cc
query_still state (asked.Delete table cond) h = cc

-- so a query doesn't
pub read_still : (state : Sequential) (cluster : ℕ) (said : Statement) → is_read (kind_of said) ≡ true → IsUnchanged state (seq state cluster said)
unfolding seq
read_still state cluster said h = by (resolution (scope_in state cluster) said) (asks_by_kind (scope_in state cluster) said)
  where
    by : (step : Step Resolved) → IfOk step (λ done. is_query done ≡ is_read (kind_of said)) → IsUnchanged state (carried_or_refused state step)
    by (Ok done) is = query_still state done (is ∙ h)
    by (Err refusal) is = record { state = refl; changes = refl }

-- ---- refusals

-- a reply isn't a refusal
abbrev IsNoRefusal : SeqReply → Type 0
IsNoRefusal reply = (refusal : Refusal) → Command reply ≢ Command (told.Refused refusal)

-- a change that is refused isn't made
refused_still : (state : Sequential) (why : Option Refusal) (reply : SeqReply) (change : Change) (refusal : Refusal) → IsNoRefusal reply
    → (changing why reply change).response ≡ Command (told.Refused refusal) → (changing why reply change).changes ≡ []
refused_still state None reply change refusal other h = absurd (other refusal h)
refused_still state (Some why) reply change refusal other h = refl

-- so what is told a refusal has no changes
asked_none : (state : Sequential) (done : Resolved) (refusal : Refusal) → (carried_out state done).response ≡ Command (told.Refused refusal)
    → (carried_out state done).changes ≡ []
asked_none state (asked.CreateTable name columns) refusal h = refused_still state _ _ _ refusal (λ r e. cc) h
asked_none state (asked.CreateView name columns query) refusal h = refused_still state _ _ _ refusal (λ r e. cc) h
asked_none state (asked.CreateIndex name on plan cluster) refusal h = refused_still state _ _ _ refusal (λ r e. cc) h
asked_none state (asked.Drop id) refusal h = refused_still state _ _ _ refusal (λ r e. cc) h
asked_none state (asked.Insert table rows) refusal h = refused_still state _ _ _ refusal (λ r e. cc) h
asked_none state (asked.Delete table cond) refusal h = cc
asked_none state (asked.Query plan) refusal h = cc

-- and a statement that is told one changes nothing
pub refusal_still : (state : Sequential) (cluster : ℕ) (said : Statement) (refusal : Refusal)
    → (seq state cluster said).response ≡ Command (told.Refused refusal) → IsUnchanged state (seq state cluster said)
unfolding seq
refusal_still state cluster said refusal h = by (resolution (scope_in state cluster) said) h
  where
    by : (step : Step Resolved) → (carried_or_refused state step).response ≡ Command (told.Refused refusal)
        → IsUnchanged state (carried_or_refused state step)
    by (Ok done) is = record {
      state = still state (carried_out state done).changes (asked_none state done refusal is);
      changes = asked_none state done refusal is;
    }
    by (Err why) is = record { state = refl; changes = refl }
