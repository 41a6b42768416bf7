-- Nodes that were built of a plan, and what runs of them do with its rows.
use Rattle.std.proofs.Common.{◌≡◌, List, [], ◌∷◌, ◌++◌, refl, sym, ap, ◌∙◌, subst}
use Rattle.std.specs.List.{AllByRecursion as Each}
use Rattle.mz_bag.specs.Weighted.{Weighted, count}
use Rattle.mz_plan.specs.Meaning.{Leaves}
use Rattle.mz_plan.specs.declared.plan.Plan.{Plan}
use Rattle.mz_plan_laws.specs.Alike.{AreAlike}
use Rattle.mz_dataflow.specs.Built.{bears_plan, meaning_of_ints, Bears, IsBuilt, Puts}
use Rattle.mz_dataflow.specs.Nodes.{after_node, after_nodes, below, stand_nodes, stands_node, top, IsFresh}
use Rattle.mz_dataflow.specs.Run.{grown, AreChanged, CanRun, IsChangeOf, IsRunTo}
use Rattle.mz_dataflow.specs.contracts.op.OpChanging.TheImpl.{ghosts}
use Rattle.mz_dataflow.specs.declared.node.Node.{Node}
use Rattle.mz_dataflow.specs.declared.node.Node.TheVariants.{Leaf, Unary, Binary}
use Rattle.mz_dataflow.proofs.StackLaws.{top_changed}

-- ---- built nodes

-- nodes behind no others are a plan's
pub built_puts : (plan : Plan) (nodes : List Node) → IsBuilt plan [] nodes → Puts plan nodes
built_puts plan nodes h = subst (λ ns. Puts plan ns) (sym h.behind) h.puts

-- whose loads are within the bound where the plan's are
pub built_bear : (plan : Plan) (nodes : List Node) → IsBuilt plan [] nodes → Bears plan nodes
built_bear plan nodes h = subst (λ ns. Bears plan ns) (sym h.behind) h.bears

-- on a stack there is no row
abbrev pub AreNone : List Weighted → Type 0
AreNone stack = Each (λ ws. ws ≡ []) stack

top_none : (stack : List Weighted) → AreNone stack → top stack ≡ []
top_none [] h = refl
top_none (ws ∷ stack) h = h.0

below_none : (stack : List Weighted) → AreNone stack → AreNone (below stack)
below_none [] h = tt
below_none (ws ∷ stack) h = h.1

-- a node that was told nothing yet makes no row of none
fresh_after : (node : Node) (stack : List Weighted) → IsFresh node → AreNone stack → AreNone (after_node (λ item. []) node stack)
fresh_after (Leaf item) stack h k = (refl, k)
fresh_after (Unary op) stack h k = (ap (λ ws. ghosts.meaning op ws []) (top_none stack k) ∙ h.none, below_none stack k)
fresh_after (Binary op) stack h k = (
  (λ i. ghosts.meaning op (top_none (below stack) (below_none stack k) i) (top_none stack k i)) ∙ h.none,
  below_none (below stack) (below_none stack k),
)

-- and stands for none
fresh_stands : (node : Node) (stack : List Weighted) → IsFresh node → AreNone stack → stands_node node stack
fresh_stands (Leaf item) stack h k = tt
fresh_stands (Unary op) stack h k = subst (λ (ws : Weighted). ghosts.stands op ws []) (sym (top_none stack k)) h.stands
fresh_stands (Binary op) stack h k =
    subst (λ (p : Weighted × Weighted). ghosts.stands op p.0 p.1)
    (sym (λ i. (top_none (below stack) (below_none stack k) i, top_none stack k i))) h.stands

fresh_stand : (nodes : List Node) (stack : List Weighted) → Each IsFresh nodes → AreNone stack → stand_nodes (λ item. []) nodes stack
fresh_stand [] stack h k = tt
fresh_stand (n ∷ nodes) stack h k =
    (fresh_stands n stack h.0 k, fresh_stand nodes (after_node (λ item. []) n stack) h.1 (fresh_after n stack h.0 k))

nodes_none : (nodes : List Node) (stack : List Weighted) → Each IsFresh nodes → AreNone stack → AreNone (after_nodes (λ item. []) nodes stack)
nodes_none [] stack h k = k
nodes_none (n ∷ nodes) stack h k = nodes_none nodes (after_node (λ item. []) n stack) h.1 (fresh_after n stack h.0 k)

-- so a plan over leaves without a row has none
pub built_none : (plan : Plan) (nodes : List Node) → IsBuilt plan [] nodes → meaning_of_ints (λ item. []) plan ≡ []
built_none plan nodes h =
    ap top (sym (h.puts.puts (λ item. []) [])) ∙ top_none (after_nodes (λ item. []) h.more []) (nodes_none h.more [] h.fresh tt)

-- and built nodes stand for these
pub built_stand : (plan : Plan) (nodes : List Node) → IsBuilt plan [] nodes → stand_nodes (λ item. []) nodes []
built_stand plan nodes h = subst (λ ns. stand_nodes (λ item. []) ns []) (sym h.behind) (fresh_stand h.more [] h.fresh tt)

-- ---- runs

-- a run of nodes that put a plan's rows changes them
pub run_changes : (plan : Plan) (changes : Leaves) (old new : List Node) (rows : Weighted) → Puts plan old → IsRunTo changes old new rows
    → IsChangeOf (λ leaves. meaning_of_ints leaves plan) (λ leaves. stand_nodes leaves old []) (λ leaves. stand_nodes leaves new []) changes rows
run_changes plan changes old new rows p h = record {
  stands = λ leaves more alike s. (h.run.runs leaves more alike s).0;
  gives = λ leaves more alike s q.
      let changed : AreChanged (after_nodes leaves old []) (after_nodes more new []) h.made = (h.run.runs leaves more alike s).1 in
      ap (λ st. count q (top st)) (sym (h.run.same more [] ∙ p.puts more []))
      ∙ top_changed (after_nodes leaves old []) (after_nodes more new []) h.made changed.all q
      ∙ ap (λ st. count q (top st ++ top h.made)) (p.puts leaves [])
      ∙ ap (λ ws. count q (meaning_of_ints leaves plan ++ ws)) (sym h.is);
}

-- and the nodes go on to put them
pub puts_still : (plan : Plan) (changes : Leaves) (old new : List Node) (rows : Weighted) → Puts plan old → IsRunTo changes old new rows → Puts plan new
puts_still plan changes old new rows p h = record { puts = λ leaves stack. h.run.same leaves stack ∙ p.puts leaves stack }

-- with loads that are within the bound where the plan's are
pub bears_still : (plan : Plan) (changes : Leaves) (old new : List Node) (rows : Weighted) → Bears plan old → IsRunTo changes old new rows → Bears plan new
bears_still plan changes old new rows p h = record {
  bears = λ before after olds news w. h.run.bears before after olds news (p.bears before after olds news w);
}

-- so a run is within the bound where the plan is, over rows that the nodes stand for, and over some that count as they
-- do with the changes
pub plan_runs : (plan : Plan) (changes before after : Leaves) (nodes : List Node) → Bears plan nodes → stand_nodes before nodes []
    → AreAlike after (grown before changes) → bears_plan before after plan → CanRun changes nodes
plan_runs plan changes before after nodes p stand alike within = record {
  before = before;
  after = after;
  stand = stand;
  alike = alike;
  bears = p.bears before after [] [] within;
}
