-- How a statement's state continues the one before it.
use Rattle.std.proofs.Common.{◌≡◌, ◌≤◌, ◌==◌, inl, inr, ℕ, cond, not, [], ◌∷◌, ◌++◌, Ok, Err, refl, sym, ap, ◌∙◌, append_assoc, arith}
use Rattle.std.proofs.lemmas.List.Elements.{All-contains, All-contains_itself, All-from_recursion, recursion_from_All}
use Rattle.std.specs.Prelude.{Contains}
use Rattle.std.specs.List.{AllByRecursion as Each}
use Rattle.mz_bag.specs.Weighted.{Weighted}
use Rattle.mz_statement.specs.declared.statement.Statement.{Statement}
use Rattle.mz_plan.specs.declared.item.Item.{Item}
use Rattle.mz_plan.specs.declared.item.ItemKind.{ItemKind}
use Rattle.mz_plan.specs.declared.item.ItemKind.TheVariants.{Table, View, Index}
use Rattle.mz_plan.specs.declared.resolved.Resolved.{Resolved}
use Rattle.mz_plan.specs.declared.resolved.Resolved.TheVariants as asked
use Rattle.mz_plan_laws.proofs.TypedValues.{each_append, each_kept, each_weaker}
use Rattle.mz_resolution.specs.Resolution.{resolution}
use Rattle.mz_resolution.specs.Steps.{Step}
use Rattle.mz_log.specs.CarriedOut.{carried_or_refused, carried_out, seq}
use Rattle.mz_log.specs.Sequential.{Made, Moved, Removed, Sequential, new_plan}
use Rattle.mz_state_laws.specs.Growth.{Continues, IsOldOrNew}
use Rattle.mz_state_laws.specs.Well.{scope_in}
use Rattle.mz_state_laws.proofs.Refusals.{after, unless_refused}

-- each item of a state is there
all_old : (state : Sequential) → Each (IsOldOrNew state) state.database.items
all_old state =
    each_weaker (Contains state.database.items) (IsOldOrNew state) (λ item there. inl there) state.database.items
    (recursion_from_All (Contains state.database.items) state.database.items (All-contains_itself state.database.items))

-- a state continues itself
pub continues_itself : (state : Sequential) → Continues state state
continues_itself state = record { next = omega arith; items = all_old state; newer = []; plans = refl; made = tt }

-- and what continues a state that continues another continues that
pub continues_twice : (one two three : Sequential) → Continues one two → Continues two three → Continues one three
continues_twice one two three first second = record {
  next = omega (arith, first.next, second.next);
  items = each_weaker (IsOldOrNew two) (IsOldOrNew one) older three.database.items second.items;
  newer = second.newer ++ first.newer;
  plans = second.plans ∙ ap (λ plans. second.newer ++ plans) first.plans ∙ sym (append_assoc second.newer first.newer one.plans);
  made = each_append (λ index. one.database.next ≤ index.0) second.newer first.newer
      (each_weaker (λ index. two.database.next ≤ index.0) (λ index. one.database.next ≤ index.0)
      (λ index above. omega (arith, first.next, above)) second.newer second.made) first.made;
}
  where
    older : (item : Item) → IsOldOrNew two item → IsOldOrNew one item
    older item (inl there) =
        All-contains (IsOldOrNew one) two.database.items item (All-from_recursion (IsOldOrNew one) two.database.items first.items) there
    older item (inr above) = inr (omega (arith, first.next, above))

-- ---- changes

-- the plan that comes with an item has its number
new_made : (number least : ℕ) (kind : ItemKind) → least ≤ number → Each (λ index. least ≤ index.0) (new_plan number kind)
new_made number least (Table columns) h = tt
new_made number least (View columns query) h = tt
new_made number least (Index on plan) h = (h, tt)

-- an item is made, with the next number
made_continues : (state : Sequential) (item : Item) → item.id ≡ state.database.next → Continues state (after state (Made item))
made_continues state item number = record {
  next = omega arith;
  items = each_append (IsOldOrNew state) state.database.items (item ∷ []) (all_old state) (inr (omega (arith, number)), tt);
  newer = new_plan item.id item.kind;
  plans = refl;
  made = new_made item.id state.database.next item.kind (omega (arith, number));
}

-- an item is removed
removed_continues : (state : Sequential) (id : ℕ) → Continues state (after state (Removed id))
removed_continues state id = record {
  next = omega arith;
  items = each_kept (IsOldOrNew state) (λ item. not (item.id == id)) state.database.items (all_old state);
  newer = [];
  plans = refl;
  made = tt;
}

-- rows come or go
moved_continues : (state : Sequential) (table : ℕ) (rows : Weighted) → Continues state (after state (Moved table rows))
moved_continues state table rows = record { next = omega arith; items = all_old state; newer = []; plans = refl; made = tt }

-- ---- statements

-- so whatever is asked for leaves a state that continues the one before
pub asked_continues : (state : Sequential) (done : Resolved) → Continues state (carried_out state done).state
asked_continues state (asked.CreateTable name columns) =
    unless_refused state _ _ _ (Continues state) (continues_itself state) (λ none. made_continues state _ refl)
asked_continues state (asked.CreateView name columns query) =
    unless_refused state _ _ _ (Continues state) (continues_itself state) (λ none. made_continues state _ refl)
asked_continues state (asked.CreateIndex name on plan cluster) =
    unless_refused state _ _ _ (Continues state) (continues_itself state) (λ none. made_continues state _ refl)
asked_continues state (asked.Drop id) = unless_refused state _ _ _ (Continues state) (continues_itself state) (λ none. removed_continues state id)
asked_continues state (asked.Insert table rows) =
    unless_refused state _ _ _ (Continues state) (continues_itself state) (λ none. moved_continues state table _)
asked_continues state (asked.Delete table cond) = moved_continues state table _
asked_continues state (asked.Query plan) = continues_itself state

-- and so does each statement
pub seq_continues : (state : Sequential) (cluster : ℕ) (said : Statement) → Continues state (seq state cluster said).state
unfolding seq
seq_continues state cluster said = by (resolution (scope_in state cluster) said)
  where
    by : (step : Step Resolved) → Continues state (carried_or_refused state step).state
    by (Ok done) = asked_continues state done
    by (Err refusal) = continues_itself state
