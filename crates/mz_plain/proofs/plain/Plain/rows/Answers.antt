use Rattle.std.proofs.Common.{◌≡◌, refl, subst}
use Rattle.std.specs.Prelude.{IfOk}
use Rattle.std.specs.FinMap.{entries}
use Rattle.mz_bag.specs.Weighted.{Weighted, bag_of}
use Rattle.mz_state_laws.proofs.Evaluable.{means_rows}
use Rattle.mz_kept.specs.Kept.{state_of}
use Rattle.mz_plain.specs.Stands.{kept}
use Rattle.mz_plain.proofs.plain.Plain.rows.Goals as goal

-- the tables have the rows of the state
pub returns-clause-rows : goal.returns-clause-rows
returns-clause-rows c =
    subst (λ (all : Weighted). IfOk c.counted-rows.result (λ rows. rows ≡ entries (bag_of all)))
    (means_rows (state_of (kept c.args.self.now)) (record { bags = c.in_ok-self.field-0; plans = c.args.self.now.tables.plans })
    (record { bags = c.in_ok-self.ensures; plans = refl }) c.args.plan.now) c.counted-rows.ensures
