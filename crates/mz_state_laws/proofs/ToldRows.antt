-- What queries are told in a well state.
use Rattle.std.proofs.Common.{◌≡◌, ℕ, false, pos, ◌≤ℤ◌, List, Ok, Err, refl, sym, subst, ◌∙◌, le_trans}
use Rattle.std.specs.Prelude.{IfOk}
use Rattle.std.specs.FinMap.{entries}
use Rattle.mz_value.specs.declared.datum.Datum.{Datum}
use Rattle.mz_bag.specs.Weighted.{bag_of, count}
use Rattle.mz_bag.proofs.BagLaws.{IsBag-bag_of, IsDistinct-entries, count-entries, count_in-bag_of}
use Rattle.mz_plan.specs.Bound.{index_bounded}
use Rattle.mz_plan.specs.Meaning.{index_rows, table_rows}
use Rattle.mz_plan.specs.PlanTypes.{index_types}
use Rattle.mz_plan.specs.RowTypes.{HaveTypes, IsRowOf}
use Rattle.mz_plan.specs.Signs.{IsNotNegative}
use Rattle.mz_plan.specs.Types.{types_of}
use Rattle.mz_plan.specs.declared.plan.Plan.{Plan}
use Rattle.mz_plan.specs.declared.resolved.Resolved.{Resolved}
use Rattle.mz_plan.specs.declared.resolved.Resolved.TheVariants as asked
use Rattle.mz_plan_laws.proofs.PlanMasses.{least_plain}
use Rattle.mz_plan_laws.proofs.RowTypes.{all_leaves, indexes_typed, rows_typed}
use Rattle.mz_plan_laws.proofs.SignLaws.{indexes_not, plan_not}
use Rattle.mz_plan_laws.proofs.SmallPlans.{bounded_light}
use Rattle.mz_plan_laws.proofs.TypedValues.{each_entry}
use Rattle.mz_statement.specs.declared.query.Select.{Select}
use Rattle.mz_statement.specs.declared.statement.Statement.{Statement}
use Rattle.mz_statement.specs.declared.statement.Statement.TheVariants as statement
use Rattle.mz_resolution.specs.Resolution.{query_in, resolution}
use Rattle.mz_resolution.specs.Steps.{Step}
use Rattle.mz_resolution.specs.declared.relation.Relation.{Relation}
use Rattle.mz_resolve_laws.proofs.OverLaws.{over_in_cluster}
use Rattle.mz_resolve_laws.proofs.OverTypes.{relation_over}
use Rattle.mz_resolve_laws.proofs.StepTools.{weaker_ok}
use Rattle.mz_resolve_laws.proofs.TypesStay.{typed_in_cluster}
use Rattle.mz_resolve_laws.specs.TypedOver.{IsRelationOver}
use Rattle.mz_log.specs.CarriedOut.{Response, carried_or_refused, carried_out, rows_of, seq}
use Rattle.mz_log.specs.CarriedOut as log
use Rattle.mz_log.specs.Sequential.{Sequential}
use Rattle.mz_state_laws.specs.Evaluable.{AsksEvaluable, HasRowsOf, AreToldRows, IsEvaluable, TellsRows}
use Rattle.mz_state_laws.specs.Kinds.{is_rows}
use Rattle.mz_state_laws.specs.Well.{IsWell, scope_in}
use Rattle.mz_state_laws.proofs.KindLaws.{replies_told, told_by_asked}
use Rattle.mz_state_laws.proofs.LeafRows.{rows_of_types, rows_there}
use Rattle.mz_state_laws.proofs.Evaluable.{query_evaluable}
use Rattle.mz_state_laws.proofs.RowsThere.{each_there}

-- ---- answers

-- the rows of a plan aren't negative
plan_there : (state : Sequential) → IsWell state → (plan : Plan) → IsNotNegative (rows_of state plan)
plan_there state well plan =
    let there = rows_there well.types state.database.bags well.over.bags in
    plan_not (table_rows state.database.bags) (index_rows (table_rows state.database.bags) state.plans) plan
    (all_leaves _ _ there (indexes_not (table_rows state.database.bags) there state.plans) plan)

-- what a plan that may be read tells is an answer
plan_rows : (state : Sequential) → IsWell state → (plan : Plan) → IsEvaluable state plan → AreToldRows (entries (bag_of (rows_of state plan)))
plan_rows state well plan is = record {
  there = each_there (bag_of (rows_of state plan)) (IsBag-bag_of (rows_of state plan)) (record {
    counts = λ q. subst (λ z. pos 0 ≤ℤ z) (sym (same q)) ((plan_there state well plan).counts q);
  });
  light = record {
    within = le_trans (least_plain (entries (bag_of (rows_of state plan))) (rows_of state plan)
        (IsDistinct-entries (bag_of (rows_of state plan))) same)
        (bounded_light (table_rows state.database.bags) (index_rows (table_rows state.database.bags) state.plans)
        (index_bounded (table_rows state.database.bags) state.plans) plan is.bounded).within;
  };
}
  where
    same : (q : List Datum) → count q (entries (bag_of (rows_of state plan))) ≡ count q (rows_of state plan)
    same q = count-entries (bag_of (rows_of state plan)) q ∙ count_in-bag_of (rows_of state plan) q

-- what tells no rows tells no wrong ones
tells_reply : (response : _) → is_rows response ≡ false → TellsRows response
tells_reply (log.Command reply) h = tt
tells_reply (log.Rows rows) h = cc

-- so a query does
query_tells : (state : Sequential) → IsWell state → (step : Step Resolved) → IfOk step (AsksEvaluable state)
    → TellsRows (carried_or_refused state step).response
query_tells state well (Ok (asked.Query plan)) h = plan_rows state well plan h
query_tells state well (Ok (asked.CreateIndex name on plan cluster)) h =
    tells_reply _ (told_by_asked state (asked.CreateIndex name on plan cluster))
query_tells state well (Ok other) h = absurd h
query_tells state well (Err refusal) h = tt

-- and each statement
pub tells_rows : (state : Sequential) → IsWell state → (cluster : ℕ) (said : Statement) → TellsRows (seq state cluster said).response
unfolding seq
tells_rows state well cluster (statement.Query query as_of) =
    query_tells state well (resolution (scope_in state cluster) (statement.Query query as_of)) (query_evaluable state well cluster query as_of)
tells_rows state well cluster other = tells_reply (seq state cluster other).response (replies_told state cluster other refl)

-- ---- types

-- the rows of a relation have the types of its columns
pub relation_rows : (state : Sequential) → IsWell state → (cluster : ℕ) (query : List Select)
    → IfOk (query_in (scope_in state cluster) query) (HasRowsOf state)
relation_rows state well cluster query =
    weaker_ok (query_in (scope_in state cluster) query) _ (HasRowsOf state)
    (relation_over well.types state.plans (scope_in state cluster) (over_in_cluster _ _ cluster well.over.sound).sound
    (typed_in_cluster _ _ _ cluster well.over.typed) query)
    by
  where
    by : (relation : Relation) → IsRelationOver well.types (index_types well.types state.plans) relation → HasRowsOf state relation
    by relation over =
        let typed = rows_of_types well.types state.database.bags well.over.bags in
        record {
          typed = each_entry (IsRowOf (types_of relation.columns)) (rows_of state relation.plan)
              (subst (λ types. HaveTypes types (rows_of state relation.plan)) over.types
              (rows_typed well.types (index_types well.types state.plans) (table_rows state.database.bags)
              (index_rows (table_rows state.database.bags) state.plans) relation.plan
              (all_leaves _ _ typed.each
              (indexes_typed well.types (table_rows state.database.bags) typed state.plans well.over.typed.formed) relation.plan)
              over.formed));
        }
