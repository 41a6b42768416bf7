-- What nodes leave on a stack of rows, one node after another, and for which rows they stand.
use Rattle.std.specs.Prelude.{◌≡◌, ⊤, List, [], ◌∷◌}
use Rattle.mz_bag.specs.Weighted.{Weighted}
use Rattle.mz_plan.specs.Meaning.{Leaves}
use Rattle.mz_dataflow.specs.contracts.op.OpChanging.TheImpl.{ghosts}
use Rattle.mz_dataflow.specs.declared.node.Node.{Node}
use Rattle.mz_dataflow.specs.declared.node.Node.TheVariants.{Leaf, Unary, Binary}
use Rattle.mz_dataflow.specs.declared.op.Op.{Op}

-- the first rows of a stack, none where it is empty
abbrev pub top : List Weighted → Weighted
top [] = []
top (ws ∷ stack) = ws

-- the stack below them
abbrev pub below : List Weighted → List Weighted
below [] = []
below (ws ∷ stack) = stack

-- the stack after a node: a leaf puts its rows on it, and an operator what it makes of the first rows, or of the
-- first two, in their place
abbrev pub after_node : Leaves → Node → List Weighted → List Weighted
after_node leaves (Leaf item) stack = leaves item ∷ stack
after_node leaves (Unary op) stack = ghosts.meaning op (top stack) [] ∷ below stack
after_node leaves (Binary op) stack = ghosts.meaning op (top (below stack)) (top stack) ∷ below (below stack)

-- the stack after nodes, the first of them first
abbrev pub after_nodes : Leaves → List Node → List Weighted → List Weighted
after_nodes leaves [] stack = stack
after_nodes leaves (node ∷ nodes) stack = after_nodes leaves nodes (after_node leaves node stack)

-- a node stands for the rows that it takes from a stack
abbrev pub stands_node : Node → List Weighted → Type 0
stands_node (Leaf item) stack = ⊤
stands_node (Unary op) stack = ghosts.stands op (top stack) []
stands_node (Binary op) stack = ghosts.stands op (top (below stack)) (top stack)

-- each node stands for the rows that it takes, where the leaves have these rows
abbrev pub stand_nodes : Leaves → List Node → List Weighted → Type 0
stand_nodes leaves [] stack = ⊤
stand_nodes leaves (node ∷ nodes) stack = stands_node node stack × stand_nodes leaves nodes (after_node leaves node stack)

-- an operator that was told nothing yet stands for no rows, of which it makes none
pub record IsFreshOp (op : Op) : Type 0 where
  pub stands : ghosts.stands op [] []
  pub none : ghosts.meaning op [] [] ≡ []

-- a node that was told nothing yet
abbrev pub IsFresh : Node → Type 0
IsFresh (Leaf item) = ⊤
IsFresh (Unary op) = IsFreshOp op
IsFresh (Binary op) = IsFreshOp op
