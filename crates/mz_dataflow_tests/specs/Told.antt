-- A dataflow and all that its leaves were offered.
use Rattle.std.specs.Prelude.{◌≡◌, ◌==◌, ◌+◌, ℕ, ⊤, List, [], ◌∷◌, ◌++◌, if◌then◌else◌}
use Rattle.mz_bag.specs.Mass.{mass}
use Rattle.mz_plan.specs.declared.plan.Plan.{Plan}
use Rattle.mz_updates.specs.declared.update.Update.{Update}
use Rattle.mz_updates.specs.Contents.{weights, IsBefore, IsFrom}
use Rattle.mz_dataflow.specs.Flow.{LeafUpdates}
use Rattle.mz_dataflow.specs.Stands.{offers_of, Stands}
use Rattle.mz_dataflow.specs.declared.dataflow.Dataflow.{Dataflow}

-- offers, each to its leaf
abbrev pub Given : Type 0
Given = List (ℕ × List Update)

-- all of a leaf, one behind the other
abbrev pub all_of : Given → LeafUpdates
all_of [] item = []
all_of (g ∷ gs) item = if g.0 == item then g.1 ++ all_of gs item else all_of gs item

-- the mass of all
abbrev pub total : Given → ℕ
total [] = 0
total (g ∷ gs) = mass (weights g.1) + total gs

-- all are before a time
abbrev pub AreBefore : ℕ → Given → Type 0
AreBefore upper [] = ⊤
AreBefore upper (g ∷ gs) = IsBefore upper g.1 × AreBefore upper gs

-- the dataflow stands for what was offered up to its last run, and what came since is from its upper on
pub record IsTold (plan : Plan) (flow : Dataflow) (given : Given) : Type 0 where
  pub us : LeafUpdates
  pub stands : Stands plan flow us
  pub all : (item : ℕ) → us item ++ offers_of flow item ≡ all_of given item
  pub from : (item : ℕ) → IsFrom flow.output.upper (offers_of flow item)
