-- What runs at one time after another do, where leaves are lists of updates.
use Rattle.std.specs.Prelude.{ℕ, ◌+◌, ◌<◌, ◌≤◌, List, [], ◌++◌}
use Rattle.mz_bag.specs.Weighted.{Weighted}
use Rattle.mz_plan.specs.Meaning.{Leaves}
use Rattle.mz_plan_laws.specs.Alike.{Alike, AreAlike}
use Rattle.mz_updates.specs.declared.update.Update.{Update}
use Rattle.mz_updates.specs.Contents.{changes, contents, stamped, weights, IsBefore}
use Rattle.mz_dataflow.specs.Nodes.{after_nodes, stand_nodes, top}
use Rattle.mz_dataflow.specs.Run.{bear_nodes}
use Rattle.mz_dataflow.specs.declared.node.Node.{Node}

-- the updates of each leaf, by its number
abbrev pub LeafUpdates : Type 0
LeafUpdates = ℕ → List Update

-- what they contain at a time
abbrev pub contents_of : ℕ → LeafUpdates → Leaves
contents_of t us item = contents t (us item)

-- all their rows, each with its diff
abbrev pub weights_of : LeafUpdates → Leaves
weights_of us item = weights (us item)

-- each list with others behind it
abbrev pub longer : LeafUpdates → LeafUpdates → LeafUpdates
longer us given item = us item ++ given item

-- changes of the leaves, at a time
abbrev pub stamped_leaves : ℕ → Leaves → LeafUpdates
stamped_leaves time changes item = stamped time (changes item)

-- leaves that end before a time, for whose rows something stands
pub record StandsBefore (upper : ℕ) (stand : Leaves → Type 0) (us : LeafUpdates) : Type 0 where
  pub early : (item : ℕ) → IsBefore upper (us item)
  pub rows : stand (weights_of us)

-- a step: whatever updates of the leaves something stood for, it stands for the longer lists after it, and at each time what
-- the output contains is what is made of these more than of those before
pub record IsFlowStep (made : Leaves → Weighted) (before after : LeafUpdates → Type 0) (given : LeafUpdates) (out : List Update) : Type 0 where
  pub stands : (us : LeafUpdates) → before us → after (longer us given)
  pub gives : (us : LeafUpdates) → before us → (t : ℕ)
      → Alike (made (contents_of t (longer us given))) (made (contents_of t us) ++ contents t out)

-- what is made of leaves hangs on their counts alone, and so does for which rows of them something stands
pub record ReadsLeaves (made : Leaves → Weighted) (stand : Leaves → Type 0) : Type 0 where
  pub gives : (leaves others : Leaves) → AreAlike leaves others → Alike (made leaves) (made others)
  pub keeps : (leaves others : Leaves) → AreAlike leaves others → stand leaves → stand others

-- ---- several times

-- what nodes leave last on an empty stack
abbrev pub put : List Node → Leaves → Weighted
put nodes leaves = top (after_nodes leaves nodes [])

-- runs from one time to another are within the bound: the nodes stand for some rows of the leaves before them, and at each
-- time, over rows that count as those before it and after it, the load of each node is so
pub record IsBearableFlow (nodes : List Node) (lower upper : ℕ) (given : LeafUpdates) : Type 0 where
  pub rows : ℕ → Leaves
  pub stand : stand_nodes (rows lower) nodes []
  pub next : (t item : ℕ) → lower ≤ t → Alike (rows (t + 1) item) (rows t item ++ changes t (given item))
  pub within : (t : ℕ) → lower ≤ t → t < upper → bear_nodes (rows t) (rows (t + 1)) nodes [] []
