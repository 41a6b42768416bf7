-- What is kept of a plan whose rows are maintained, and what a change does.
use Rattle.std.specs.Prelude.{◌≡◌, ◌+◌, ◌≤◌, ℕ, [], ◌++◌, length, refl}
use Rattle.std.specs.Coded.{Coded, code_by, coded×, coded_list, coded_ℕ}
use Rattle.mz_bag.specs.Bag.{Counts}
use Rattle.mz_plan.specs.Leaves.{leaves_of}
use Rattle.mz_plan.specs.Masses.{AreWithin}
use Rattle.mz_plan.specs.Meaning.{Leaves}
use Rattle.mz_plan.specs.Small.{most_rows, most_tables}
use Rattle.mz_plan.specs.declared.plan.Plan.{Plan}
use Rattle.mz_plan_laws.specs.Alike.{Alike, AreAlike}
use Rattle.mz_updates.specs.Consolidated.{IsConsolidated}
use Rattle.mz_updates.specs.Contents.{stamped, weights, IsBefore}
use Rattle.mz_dataflow.specs.Built.{meaning_of_ints, Puts}
use Rattle.mz_dataflow.specs.Flow.{weights_of, LeafUpdates}
use Rattle.mz_dataflow.specs.Stands.{offers_of, Stands}
use Rattle.mz_dataflow.specs.declared.dataflow.Dataflow.{Dataflow}
use Rattle.mz_maintained.specs.Tables.{rows_of, AreChanged, Tables}

-- a dataflow, and the rows that its tables have
pub record Kept : Type 0 where
  pub flow : Dataflow
  pub tables : Tables

-- written out
abbrev pub kept_code : Coded Dataflow → Coded Counts → Coded Kept
kept_code flow_code bag_code =
    code_by (Dataflow × Tables) (coded× flow_code (coded_list (coded× coded_ℕ bag_code)))
    (λ k. (k.flow, k.tables)) (λ p. record { flow = p.0; tables = p.1 }) (λ _. refl)

-- the dataflow is one of a plan over few tables, and stands for updates that come to the rows of the tables, none of which is
-- large. All that was offered was run
pub record IsSound (kept : Kept) : Type 0 where
  pub plan : Plan
  pub us : LeafUpdates
  pub stands : Stands plan kept.flow us
  pub few : length (leaves_of plan) ≤ most_tables
  pub since : kept.flow.output.since ≤ kept.flow.output.upper
  pub none : kept.flow.offered.items ≡ []
  pub rows : AreAlike (rows_of kept.tables) (weights_of us)
  pub within : AreWithin most_rows (rows_of kept.tables)

-- a plan is maintained from a time on, over tables without a row
pub record IsBegun (plan : Plan) (as_of : ℕ) (kept : Kept) : Type 0 where
  pub puts : Puts plan kept.flow.nodes.items
  pub upper : kept.flow.output.upper ≡ as_of
  pub tables : kept.tables ≡ []

-- a dataflow was offered what changes at a time, and tables have changed by it
pub record AreTold (time : ℕ) (told : Leaves) (old : Dataflow) (old_tables : Tables) (new : Dataflow) (new_tables : Tables) : Type 0 where
  pub tables : AreChanged told old_tables new_tables
  pub offers : (item : ℕ) → offers_of new item ≡ offers_of old item ++ stamped time (told item)
  pub stands : (plan : Plan) (us : LeafUpdates) → Stands plan old us → Stands plan new us
  pub output : new.output ≡ old.output
  pub nodes : new.nodes ≡ old.nodes
  pub broken : new.broken ≡ old.broken

-- what changes of tables at a time was carried through: whatever plan is maintained, it goes on to be, and its rows over the tables
-- after the change count as those before it with what was put out by that time, which is consolidated
pub record IsChange (time : ℕ) (told : Leaves) (old new : Kept) : Type 0 where
  pub tables : (item : ℕ) → Alike (rows_of new.tables item) (rows_of old.tables item ++ told item)
  pub puts : (plan : Plan) → Puts plan old.flow.nodes.items → Puts plan new.flow.nodes.items
  pub rows : (plan : Plan) → Puts plan old.flow.nodes.items
      → Alike (meaning_of_ints (rows_of new.tables) plan) (meaning_of_ints (rows_of old.tables) plan ++ weights new.flow.changes)
  pub once : IsConsolidated new.flow.changes
  pub before : IsBefore (time + 1) new.flow.changes
  pub upper : new.flow.output.upper ≡ time + 1
