-- What nodes put, and for which rows they stand, hangs on what the leaves count alone.
use Rattle.std.proofs.Common.{List, [], ◌∷◌, refl, sym, ap, ◌∙◌}
use Rattle.std.specs.Bool.{⊤}
use Rattle.mz_bag.specs.Weighted.{Weighted, count}
use Rattle.mz_plan.specs.Meaning.{Leaves}
use Rattle.mz_plan.specs.declared.plan.Plan.{Plan}
use Rattle.mz_plan_laws.specs.Alike.{Alike, AreAlike}
use Rattle.mz_dataflow.specs.Built.{meaning_of_ints, Puts}
use Rattle.mz_dataflow.specs.Flow.{ReadsLeaves}
use Rattle.mz_dataflow.specs.Nodes.{after_node, after_nodes, below, stand_nodes, stands_node, top}
use Rattle.mz_dataflow.specs.contracts.op.OpChanging.TheImpl.Laws.{reads-law}
use Rattle.mz_dataflow.specs.declared.node.Node.{Node}
use Rattle.mz_dataflow.specs.declared.node.Node.TheVariants.{Leaf, Unary, Binary}

-- the rows at each place of two stacks count alike
abbrev pub AllAlike : List Weighted → List Weighted → Type 0
AllAlike [] [] = ⊤
AllAlike (v ∷ vs) (w ∷ ws) = Alike v w × AllAlike vs ws
AllAlike vs ws = ⊥

top_alike : (vs ws : List Weighted) → AllAlike vs ws → Alike (top vs) (top ws)
top_alike [] [] h = λ q. refl
top_alike (v ∷ vs) (w ∷ ws) h = h.0
top_alike [] (w ∷ ws) h = absurd h
top_alike (v ∷ vs) [] h = absurd h

below_alike : (vs ws : List Weighted) → AllAlike vs ws → AllAlike (below vs) (below ws)
below_alike [] [] h = tt
below_alike (v ∷ vs) (w ∷ ws) h = h.1
below_alike [] (w ∷ ws) h = absurd h
below_alike (v ∷ vs) [] h = absurd h

-- after a node they still do
node_alike : (leaves others : Leaves) → AreAlike leaves others → (node : Node) (vs ws : List Weighted) → AllAlike vs ws
    → AllAlike (after_node leaves node vs) (after_node others node ws)
node_alike leaves others alike (Leaf item) vs ws h = (alike item, h)
node_alike leaves others alike (Unary op) vs ws h =
    ((reads-law op).gives (top vs) [] (top ws) [] (top_alike vs ws h) (λ q. refl), below_alike vs ws h)
node_alike leaves others alike (Binary op) vs ws h =
    let rest = below_alike vs ws h in (
      (reads-law op).gives (top (below vs)) (top vs) (top (below ws)) (top ws) (top_alike (below vs) (below ws) rest) (top_alike vs ws h),
      below_alike (below vs) (below ws) rest,
    )

-- and it stands for both
stands_alike : (node : Node) (vs ws : List Weighted) → AllAlike vs ws → stands_node node vs → stands_node node ws
stands_alike (Leaf item) vs ws h s = tt
stands_alike (Unary op) vs ws h s = (reads-law op).keeps (top vs) [] (top ws) [] (top_alike vs ws h) (λ q. refl) s
stands_alike (Binary op) vs ws h s =
    (reads-law op).keeps (top (below vs)) (top vs) (top (below ws)) (top ws)
    (top_alike (below vs) (below ws) (below_alike vs ws h)) (top_alike vs ws h) s

nodes_alike : (leaves others : Leaves) → AreAlike leaves others → (nodes : List Node) (vs ws : List Weighted) → AllAlike vs ws
    → AllAlike (after_nodes leaves nodes vs) (after_nodes others nodes ws)
nodes_alike leaves others alike [] vs ws h = h
nodes_alike leaves others alike (n ∷ nodes) vs ws h =
    nodes_alike leaves others alike nodes (after_node leaves n vs) (after_node others n ws) (node_alike leaves others alike n vs ws h)

-- nodes that stand for some leaves stand for those that count alike
pub stand_alike : (leaves others : Leaves) → AreAlike leaves others → (nodes : List Node) (vs ws : List Weighted) → AllAlike vs ws
    → stand_nodes leaves nodes vs → stand_nodes others nodes ws
stand_alike leaves others alike [] vs ws h s = tt
stand_alike leaves others alike (n ∷ nodes) vs ws h s = (
  stands_alike n vs ws h s.0,
  stand_alike leaves others alike nodes (after_node leaves n vs) (after_node others n ws) (node_alike leaves others alike n vs ws h) s.1,
)

-- so what they put of a plan is read from the leaves' counts
pub nodes_read : (plan : Plan) (nodes : List Node) → Puts plan nodes
    → ReadsLeaves (λ leaves. meaning_of_ints leaves plan) (λ leaves. stand_nodes leaves nodes [])
nodes_read plan nodes p = record {
  gives = λ leaves others alike q.
      ap (λ st. count q (top st)) (sym (p.puts leaves []))
      ∙ top_alike (after_nodes leaves nodes []) (after_nodes others nodes []) (nodes_alike leaves others alike nodes [] [] tt) q
      ∙ ap (λ st. count q (top st)) (p.puts others []);
  keeps = λ leaves others alike s. stand_alike leaves others alike nodes [] [] tt s;
}
