-- What a run of nodes over changes of their leaves does.
use Rattle.std.specs.Prelude.{◌≡◌, ◌==◌, ◌+◌, ◌≤◌, ◌^◌, ℕ, ⊤, List, [], ◌∷◌, ◌++◌, if◌then◌else◌}
use Rattle.std.specs.List.{IsDistinct, AllByRecursion as Each}
use Rattle.std.specs.Map.{keys_of}
use Rattle.mz_value.specs.Row.{row_eq}
use Rattle.mz_bag.specs.Mass.{mass}
use Rattle.mz_bag.specs.Weighted.{Weighted}
use Rattle.mz_plan.specs.Meaning.{Leaves}
use Rattle.mz_plan_laws.specs.Alike.{Alike, AreAlike}
use Rattle.mz_ops.specs.Change.{IsBearable, IsChange, Load}
use Rattle.mz_dataflow.specs.Nodes.{top, below, after_node, after_nodes, stands_node, stand_nodes}
use Rattle.mz_dataflow.specs.contracts.op.OpChanging.TheImpl.{ghosts}
use Rattle.mz_dataflow.specs.declared.node.Node.{Node}
use Rattle.mz_dataflow.specs.declared.node.Node.TheVariants.{Leaf, Unary, Binary}
use Rattle.mz_dataflow.specs.declared.op.Op.{Op}

-- ---- changes

-- the leaves with changes behind them
abbrev pub grown : Leaves → Leaves → Leaves
grown leaves changes item = leaves item ++ changes item

-- the changes of leaves that are listed with their numbers. The others have none
abbrev pub changes_of : List (ℕ × Weighted) → Leaves
changes_of [] item = []
changes_of (c ∷ cs) item = if c.0 == item then c.1 else changes_of cs item

-- no row stands twice
abbrev pub IsOnce : Weighted → Type 0
IsOnce ws = IsDistinct row_eq (keys_of ws)

-- in no change that is listed a row stands twice
pub record AreOnce (changes : List (ℕ × Weighted)) : Type 0 where
  pub each : Each (λ c. IsOnce c.1) changes

-- the rows at each place of a stack count as the old ones there, with their change behind them
abbrev pub AllChanged : List Weighted → List Weighted → List Weighted → Type 0
AllChanged [] [] [] = ⊤
AllChanged (o ∷ os) (n ∷ ns) (c ∷ cs) = Alike n (o ++ c) × AllChanged os ns cs
AllChanged os ns cs = ⊥

pub record AreChanged (olds news changes : List Weighted) : Type 0 where
  pub all : AllChanged olds news changes

-- ---- the bound

-- a load is within the bound, of rows and of a change that weighs no more than the rows before and after
abbrev pub within_unary : Load → Weighted → Weighted → Type 0
within_unary load old new = load (mass old) 0 (mass old + mass new) 0 ≤ 2 ^ 100

-- and so of two sides, the left one first
abbrev pub within_binary : Load → Weighted → Weighted → Weighted → Weighted → Type 0
within_binary load old_left new_left old_right new_right =
    load (mass old_left) (mass old_right) (mass old_left + mass new_left) (mass old_right + mass new_right) ≤ 2 ^ 100

-- the load of a node is so, of the rows that it takes from the stacks before and after
abbrev pub bears_node : Node → List Weighted → List Weighted → Type 0
bears_node (Leaf item) olds news = ⊤
bears_node (Unary op) olds news = within_unary (ghosts.load op) (top olds) (top news)
bears_node (Binary op) olds news = within_binary (ghosts.load op) (top (below olds)) (top (below news)) (top olds) (top news)

-- and so of each of them, where the leaves have these rows before, and those after
abbrev pub bear_nodes : Leaves → Leaves → List Node → List Weighted → List Weighted → Type 0
bear_nodes before after [] olds news = ⊤
bear_nodes before after (node ∷ nodes) olds news =
    bears_node node olds news × bear_nodes before after nodes (after_node before node olds) (after_node after node news)

-- a run is within the bound: the nodes stand for some rows of the leaves, and over these, and over some that count as
-- they do with their changes, the load of each is so
pub record CanRun (changes : Leaves) (nodes : List Node) : Type 0 where
  pub before : Leaves
  pub after : Leaves
  pub stand : stand_nodes before nodes []
  pub alike : AreAlike after (grown before changes)
  pub bears : bear_nodes before after nodes [] []

-- the next node can take its changes from the stack
abbrev pub IsBearableNode : Node → List Weighted → Type 0
IsBearableNode (Leaf item) stack = ⊤
IsBearableNode (Unary op) stack = IsBearable (ghosts.stands op) (ghosts.load op) (top stack) []
IsBearableNode (Binary op) stack = IsBearable (ghosts.stands op) (ghosts.load op) (top (below stack)) (top stack)

-- ---- one node

-- an operator was told changes, and answered the change of what it makes, each row once
pub record IsOpStep (old new : Op) (left right out : Weighted) : Type 0 where
  pub law : IsChange (ghosts.meaning old) (ghosts.stands old) (ghosts.stands new) left right out
  pub once : IsOnce out
  pub same : ghosts.meaning new ≡ ghosts.meaning old
  pub same_load : ghosts.load new ≡ ghosts.load old

-- so one of one side does with a stack of changes
pub record IsUnaryStep (old new : Op) (given made : List Weighted) : Type 0 where
  pub out : Weighted
  pub puts : made ≡ out ∷ below given
  pub step : IsOpStep old new (top given) [] out

-- and one of two sides
pub record IsBinaryStep (old new : Op) (given made : List Weighted) : Type 0 where
  pub out : Weighted
  pub puts : made ≡ out ∷ below (below given)
  pub step : IsOpStep old new (top (below given)) (top given) out

-- what a node does with a stack of changes: over old and new rows that have changed so, with leaves that have changed,
-- it stands for the new ones, and the stacks behind it have changed as it says
pub record IsNodeStep (changes : Leaves) (old new : Node) (given made : List Weighted) : Type 0 where
  pub steps : (leaves more : Leaves) (olds news : List Weighted) → AreAlike more (grown leaves changes) → AreChanged olds news given
      → stands_node old olds → stands_node new news × AreChanged (after_node leaves old olds) (after_node more new news) made
  pub same : (leaves : Leaves) (stack : List Weighted) → after_node leaves new stack ≡ after_node leaves old stack
  pub bears : (olds news : List Weighted) → bears_node old olds news → bears_node new olds news
  pub once : Each IsOnce given → Each IsOnce made

-- ---- all nodes

-- what nodes do: whatever rows of the leaves they stood for, they stand for those that count as these with their
-- changes, and what they put has changed as the stack says
pub record IsRun (changes : Leaves) (old new : List Node) (made : List Weighted) : Type 0 where
  pub runs : (leaves more : Leaves) → AreAlike more (grown leaves changes) → stand_nodes leaves old []
      → stand_nodes more new [] × AreChanged (after_nodes leaves old []) (after_nodes more new []) made
  pub same : (leaves : Leaves) (stack : List Weighted) → after_nodes leaves new stack ≡ after_nodes leaves old stack
  pub bears : (before after : Leaves) (olds news : List Weighted) → bear_nodes before after old olds news → bear_nodes before after new olds news
  pub once : Each IsOnce made

-- and the change of what they put last
pub record IsRunTo (changes : Leaves) (old new : List Node) (rows : Weighted) : Type 0 where
  pub made : List Weighted
  pub run : IsRun changes old new made
  pub is : rows ≡ top made

-- a change of leaves: whatever rows of them something stood for, it stands for those that count as these with their
-- changes, and what is made of them counts as what was made before, with the output behind it
pub record IsChangeOf (made : Leaves → Weighted) (before after : Leaves → Type 0) (changes : Leaves) (out : Weighted) : Type 0 where
  pub stands : (leaves more : Leaves) → AreAlike more (grown leaves changes) → before leaves → after more
  pub gives : (leaves more : Leaves) → AreAlike more (grown leaves changes) → before leaves → Alike (made more) (made leaves ++ out)
