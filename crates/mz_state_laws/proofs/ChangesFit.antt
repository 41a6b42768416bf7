-- What statements change, and where the changes lead.
use Rattle.std.proofs.Common.{◌≡◌, ◌==◌, ◌||◌, ◌&&◌, ℕ, Bool, true, false, cond, List, [], ◌∷◌, ◌++◌, bytes_eq, Option, None, Some, Ok, Err, refl, sym, ap, subst, ◌∙◌, true≢false}
use Rattle.std.specs.Prelude.{IfOk, IsTrue, ⊤}
use Rattle.std.specs.List.{AllByRecursion as Each}
use Rattle.mz_bag.specs.Weighted.{Weighted}
use Rattle.mz_statement.specs.declared.statement.Statement.{Statement}
use Rattle.mz_statement.specs.declared.statement.Statement.TheVariants as statement
use Rattle.mz_plan.specs.Items.{dependents, is_index, is_table, is_view}
use Rattle.mz_plan.specs.declared.item.Item.{Item}
use Rattle.mz_plan.specs.declared.item.ItemKind.{ItemKind}
use Rattle.mz_plan.specs.declared.resolved.Resolved.{Resolved}
use Rattle.mz_plan.specs.declared.resolved.Resolved.TheVariants as asked
use Rattle.mz_refusal.specs.declared.refusal.Refusal.{Refusal}
use Rattle.mz_resolution.specs.Resolution.{dropped, item_in, named, newest_first, query_in, resolution}
use Rattle.mz_resolution.specs.Steps.{Step}
use Rattle.mz_resolve_laws.proofs.ScopeStatements.{IsCalled, delete_fits, insert_fits, item_in_fits}
use Rattle.mz_resolve_laws.proofs.StepTools.{any_then_ok, guard_ok, then_ok, weaker_ok}
use Rattle.mz_resolve_laws.specs.OfScope.{ChangesOfScope, HasItem, is_called}
use Rattle.mz_log.specs.CarriedOut.{carried_or_refused, carried_out, changing, seq}
use Rattle.mz_log.specs.Sequential.{Bags, Change, Sequential, added, after_changes, bag_at, with_rows}
use Rattle.mz_log.specs.declared.reply.SeqReply.{SeqReply}
use Rattle.mz_state_laws.specs.Changes.{ChangeFits, HasTable}
use Rattle.mz_state_laws.specs.Growth.{has_bag}
use Rattle.mz_state_laws.specs.Reads.{Passes, is_there}
use Rattle.mz_state_laws.specs.Well.{scope_in}
use Rattle.mz_state_laws.proofs.CommandsKeep.{none_holds}
use Rattle.mz_state_laws.proofs.ReadsThere.{item_there}

-- ---- where changes lead

-- changes one after another lead where the first lead, and from there the others
pub after_both : (state : Sequential) (some more : List Change) → after_changes state (some ++ more) ≡ after_changes (after_changes state some) more
after_both state [] more = refl
after_both state (change ∷ some) more = after_both (after_changes state (change ∷ [])) some more

-- a statement leaves what its changes lead to
pub seq_leads : (state : Sequential) (cluster : ℕ) (said : Statement)
    → (seq state cluster said).state ≡ after_changes state (seq state cluster said).changes
unfolding seq
seq_leads state cluster said = by (resolution (scope_in state cluster) said)
  where
    by : (step : Step Resolved) → (carried_or_refused state step).state ≡ after_changes state (carried_or_refused state step).changes
    by (Ok done) = refl
    by (Err refusal) = refl

-- rows that come to a table are added to its bag
pub rows_come : (bags : Bags) (table : ℕ) (rows : Weighted) → has_bag table bags ≡ true
    → bag_at (with_rows table rows bags) table ≡ added (bag_at bags table) rows
rows_come [] table rows h = absurd (true≢false (sym h))
rows_come (bag ∷ bags) table rows h = by (bag.0 == table) refl h (rows_come bags table rows)
  where
    by : (c : Bool) → (bag.0 == table) ≡ c → (c || has_bag table bags) ≡ true
        → (has_bag table bags ≡ true → bag_at (with_rows table rows bags) table ≡ added (bag_at bags table) rows)
        → bag_at (cond c (bag.0, added bag.1 rows) bag ∷ with_rows table rows bags) table ≡ added (cond c bag.1 (bag_at bags table)) rows
    by true is k rest = ap (λ c. cond c (added bag.1 rows) (bag_at (with_rows table rows bags) table)) is
    by false is k rest = ap (λ c. cond c bag.1 (bag_at (with_rows table rows bags) table)) is ∙ rest k

-- ---- what is named

-- what is asked for names what is there: what is removed, and the table that is changed
abbrev NamesThere : Sequential → Resolved → Type 0
NamesThere state (asked.Drop id) = is_there state.database.items id ≡ true
NamesThere state (asked.Insert table rows) = HasTable state.database.items table
NamesThere state (asked.Delete table cond) = HasTable state.database.items table
NamesThere state other = ⊤

-- an item that is there under a number
there_by : (state : Sequential) (cluster : ℕ) (test : Item → Bool) (number : ℕ) → HasItem (scope_in state cluster) test number
    → is_there state.database.items number ≡ true
there_by state cluster test number has =
    subst (Passes (is_there state.database.items)) has.numbered (item_there state.database.items has.item has.there)

-- the first of two that hold
first_holds : (a b : Bool) → IsTrue (a && b) → a ≡ true
first_holds true b h = refl
first_holds false b h = absurd cc

-- a table that is called by its name
table_by : (state : Sequential) (cluster : ℕ) (name : List ℕ) (number : ℕ) → HasItem (scope_in state cluster) (is_called is_table name) number
    → HasTable state.database.items number
table_by state cluster name number has = record {
  item = has.item;
  there = has.there;
  numbered = has.numbered;
  table = first_holds (is_table has.item.kind) (bytes_eq name has.item.name) has.passes;
}

-- what is changed under its name
changed_there : (state : Sequential) (cluster : ℕ) (name : List ℕ) (done : Resolved) → ChangesOfScope (scope_in state cluster) is_table name done
    → NamesThere state done
changed_there state cluster name (asked.Drop id) h = there_by state cluster (is_called is_table name) id h
changed_there state cluster name (asked.Insert table rows) h = table_by state cluster name table h
changed_there state cluster name (asked.Delete table cond) h = table_by state cluster name table h
changed_there state cluster name other h = absurd h

-- a DROP
drop_there : (state : Sequential) (cluster : ℕ) (is_kind : ItemKind → Bool) (name : List ℕ)
    → IfOk (dropped (scope_in state cluster) is_kind name) (NamesThere state)
drop_there state cluster is_kind name =
    then_ok (item_in (scope_in state cluster) name) _ (IsCalled (scope_in state cluster) name) (NamesThere state)
    (item_in_fits (scope_in state cluster) name)
    (λ item here. guard_ok (is_kind item.kind) (asked.Drop item.id) _ (NamesThere state) (λ is. item_there state.database.items item here.there))

-- each statement
names_there : (state : Sequential) (cluster : ℕ) (said : Statement) → IfOk (resolution (scope_in state cluster) said) (NamesThere state)
names_there state cluster (statement.Query query as_of) =
    any_then_ok (query_in (scope_in state cluster) query) _ (NamesThere state) (λ relation found. tt)
names_there state cluster (statement.CreateTable name columns) = guard_ok _ (asked.CreateTable name columns) _ (NamesThere state) (λ is. tt)
names_there state cluster (statement.CreateView name query) =
    any_then_ok (query_in (scope_in state cluster) query) _ (NamesThere state) (λ relation found. tt)
names_there state cluster (statement.CreateIndex name on) =
    any_then_ok (named (scope_in state cluster) (newest_first (scope_in state cluster)) on) _ (NamesThere state) (λ found is. tt)
names_there state cluster (statement.DropTable name) = drop_there state cluster is_table name
names_there state cluster (statement.DropView name) = drop_there state cluster is_view name
names_there state cluster (statement.DropIndex name) = drop_there state cluster is_index name
names_there state cluster (statement.Insert name rows) =
    weaker_ok (resolution (scope_in state cluster) (statement.Insert name rows)) _ (NamesThere state)
    (insert_fits (scope_in state cluster) name rows) (changed_there state cluster name)
names_there state cluster (statement.Delete name test) =
    weaker_ok (resolution (scope_in state cluster) (statement.Delete name test)) _ (NamesThere state)
    (delete_fits (scope_in state cluster) name test) (changed_there state cluster name)
names_there state cluster other = tt

-- ---- changes

-- a change fits where it is made
change_fits : (state : Sequential) (why : Option Refusal) (told : SeqReply) (change : Change) → (why ≡ None → ChangeFits state change)
    → Each (ChangeFits state) (changing why told change).changes
change_fits state None told change h = (h refl, tt)
change_fits state (Some refusal) told change h = tt

-- so do all of what is asked for
asked_fit : (state : Sequential) (done : Resolved) → NamesThere state done → Each (ChangeFits state) (carried_out state done).changes
asked_fit state (asked.CreateTable name columns) h = change_fits state _ _ _ (λ none. refl)
asked_fit state (asked.CreateView name columns query) h = change_fits state _ _ _ (λ none. refl)
asked_fit state (asked.CreateIndex name on plan cluster) h = change_fits state _ _ _ (λ none. refl)
asked_fit state (asked.Drop id) h =
    change_fits state _ _ _ (λ none. record { there = h; free = none_holds (dependents id state.database.items) none })
asked_fit state (asked.Insert table rows) h = change_fits state _ _ _ (λ none. h)
asked_fit state (asked.Delete table cond) h = (h, tt)
asked_fit state (asked.Query plan) h = tt

-- and of each statement
pub seq_fits : (state : Sequential) (cluster : ℕ) (said : Statement) → Each (ChangeFits state) (seq state cluster said).changes
unfolding seq
seq_fits state cluster said = by (resolution (scope_in state cluster) said) (names_there state cluster said)
  where
    by : (step : Step Resolved) → IfOk step (NamesThere state) → Each (ChangeFits state) (carried_or_refused state step).changes
    by (Ok done) h = asked_fit state done h
    by (Err refusal) h = tt
