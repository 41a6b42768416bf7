-- What statements of each kind ask for, change and are told.
use Rattle.std.proofs.Common.{◌≡◌, ℕ, Bool, true, false, cond, List, Option, None, Some, Ok, Err, refl, ap, ◌∙◌}
use Rattle.std.specs.Prelude.{IfOk}
use Rattle.mz_statement.specs.Kind.{kind_of}
use Rattle.mz_statement.specs.declared.statement.Statement.{Statement}
use Rattle.mz_statement.specs.declared.statement.Statement.TheVariants as statement
use Rattle.mz_plan.specs.Items.{is_index, is_table, is_view}
use Rattle.mz_plan.specs.declared.item.ItemKind.{ItemKind}
use Rattle.mz_plan.specs.declared.resolved.Resolved.{Resolved}
use Rattle.mz_plan.specs.declared.resolved.Resolved.TheVariants as asked
use Rattle.mz_plan.specs.declared.scope.Scope.{Scope}
use Rattle.mz_refusal.specs.declared.refusal.Refusal.{Refusal}
use Rattle.mz_refusal.specs.declared.refusal.Refusal.TheVariants.{Syntax}
use Rattle.mz_resolution.specs.Conditions.{condition}
use Rattle.mz_resolution.specs.Resolution.{dropped, first_misfit, item_in, named, newest_first, query_in, resolution, table_columns, table_sight}
use Rattle.mz_resolution.specs.Steps.{Step, unless}
use Rattle.mz_resolve_laws.proofs.StepTools.{any_then_ok, guard_ok}
use Rattle.mz_log.specs.CarriedOut.{carried_or_refused, carried_out, changing, outcome, refused, seq}
use Rattle.mz_log.specs.Sequential.{Change, Sequential}
use Rattle.mz_log.specs.declared.reply.SeqReply.{SeqReply}
use Rattle.mz_state_laws.specs.Kinds.{is_carried, is_query, is_read, is_rows}
use Rattle.mz_state_laws.specs.Well.{scope_in}

-- ---- what is asked for

-- a step gives what isn't a query
abbrev GivesNoQuery : Step Resolved → Type 0
GivesNoQuery step = IfOk step (λ done. is_query done ≡ false)

-- a DROP
drop_no_query : (scope : Scope) (is_kind : ItemKind → Bool) (name : List ℕ) → GivesNoQuery (dropped scope is_kind name)
drop_no_query scope is_kind name =
    any_then_ok (item_in scope name) _ (λ done. is_query done ≡ false)
    (λ item found. guard_ok (is_kind item.kind) (asked.Drop item.id) _ (λ done. is_query done ≡ false) (λ is. refl))

-- an INSERT into a table, unless a row doesn't fit
put_no_query : (table : ℕ) (rows : List _) (found : Option Refusal) → GivesNoQuery (unless found (asked.Insert table rows))
put_no_query table rows None = refl
put_no_query table rows (Some refusal) = tt

-- what a statement asks for is a query where its kind is
pub asks_by_kind : (scope : Scope) (said : Statement) → IfOk (resolution scope said) (λ done. is_query done ≡ is_read (kind_of said))
asks_by_kind scope (statement.Query query as_of) =
    any_then_ok (query_in scope query) _ (λ done. is_query done ≡ true) (λ relation found. refl)
asks_by_kind scope (statement.CreateTable name columns) = guard_ok _ (asked.CreateTable name columns) _ (λ done. is_query done ≡ false) (λ is. refl)
asks_by_kind scope (statement.CreateView name query) =
    any_then_ok (query_in scope query) _ (λ done. is_query done ≡ false) (λ relation found. refl)
asks_by_kind scope (statement.CreateIndex name on) =
    any_then_ok (named scope (newest_first scope) on) _ (λ done. is_query done ≡ false) (λ found is. refl)
asks_by_kind scope (statement.DropTable name) = drop_no_query scope is_table name
asks_by_kind scope (statement.DropView name) = drop_no_query scope is_view name
asks_by_kind scope (statement.DropIndex name) = drop_no_query scope is_index name
asks_by_kind scope (statement.Insert name rows) =
    any_then_ok (item_in scope name) _ (λ done. is_query done ≡ false) (λ item found.
    any_then_ok (table_columns name item.kind) _ (λ done. is_query done ≡ false)
    (λ columns is. put_no_query item.id rows (first_misfit name columns rows)))
asks_by_kind scope (statement.Delete name test) =
    any_then_ok (item_in scope name) _ (λ done. is_query done ≡ false) (λ item found.
    any_then_ok (table_columns name item.kind) _ (λ done. is_query done ≡ false) (λ columns is.
    any_then_ok (condition (table_sight name columns) test) _ (λ done. is_query done ≡ false) (λ cond given. refl)))
asks_by_kind scope other = tt

-- what is neither a command nor a query is refused at its first byte
pub others_refused : (scope : Scope) (said : Statement) → is_carried (kind_of said) ≡ false → resolution scope said ≡ Err (Syntax 0)
others_refused scope (statement.Query query as_of) h = cc
others_refused scope (statement.CreateTable name columns) h = cc
others_refused scope (statement.CreateView name query) h = cc
others_refused scope (statement.CreateIndex name on) h = cc
others_refused scope (statement.DropTable name) h = cc
others_refused scope (statement.DropView name) h = cc
others_refused scope (statement.DropIndex name) h = cc
others_refused scope (statement.Insert name rows) h = cc
others_refused scope (statement.Delete name test) h = cc
others_refused scope other h = refl

-- so it changes nothing
pub others_stay : (state : Sequential) (cluster : ℕ) (said : Statement) → is_carried (kind_of said) ≡ false
    → seq state cluster said ≡ outcome state (refused (Syntax 0))
unfolding seq
others_stay state cluster said h = ap (carried_or_refused state) (others_refused (scope_in state cluster) said h)

-- ---- what is told

-- a change tells a reply
change_told : (why : Option Refusal) (reply : SeqReply) (change : Change) → is_rows (changing why reply change).response ≡ false
change_told None reply change = refl
change_told (Some refusal) reply change = refl

-- a query is told rows, and a command a reply
pub told_by_asked : (state : Sequential) (done : Resolved) → is_rows (carried_out state done).response ≡ is_query done
told_by_asked state (asked.CreateTable name columns) = change_told _ _ _
told_by_asked state (asked.CreateView name columns query) = change_told _ _ _
told_by_asked state (asked.CreateIndex name on plan cluster) = change_told _ _ _
told_by_asked state (asked.Drop id) = change_told _ _ _
told_by_asked state (asked.Insert table rows) = change_told _ _ _
told_by_asked state (asked.Delete table cond) = refl
told_by_asked state (asked.Query plan) = refl

-- so what isn't a query is told a reply
pub replies_told : (state : Sequential) (cluster : ℕ) (said : Statement) → is_read (kind_of said) ≡ false
    → is_rows (seq state cluster said).response ≡ false
unfolding seq
replies_told state cluster said h = by (resolution (scope_in state cluster) said) (asks_by_kind (scope_in state cluster) said)
  where
    by : (step : Step Resolved) → IfOk step (λ done. is_query done ≡ is_read (kind_of said))
        → is_rows (carried_or_refused state step).response ≡ false
    by (Ok done) is = told_by_asked state done ∙ is ∙ h
    by (Err refusal) is = refl
