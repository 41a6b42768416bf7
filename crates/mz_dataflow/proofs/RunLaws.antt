-- What nodes one after another do, and which run is within the bound.
use Rattle.std.proofs.Common.{◌≡◌, List, [], ◌∷◌, ◌++◌, refl, sym, ap, ◌∙◌, subst}
use Rattle.mz_bag.specs.Weighted.{Weighted}
use Rattle.mz_plan.specs.Meaning.{Leaves}
use Rattle.mz_dataflow.specs.Nodes.{after_node, after_nodes, stands_node, stand_nodes}
use Rattle.mz_dataflow.specs.Run.{bears_node, bear_nodes, AreChanged, IsNodeStep, IsRun}
use Rattle.mz_dataflow.specs.declared.node.Node.{Node}

-- ---- lists of nodes

-- nodes behind others go on with their stack
pub after_append : (leaves : Leaves) (nodes more : List Node) (stack : List Weighted)
    → after_nodes leaves (nodes ++ more) stack ≡ after_nodes leaves more (after_nodes leaves nodes stack)
after_append leaves [] more stack = refl
after_append leaves (n ∷ nodes) more stack = after_append leaves nodes more (after_node leaves n stack)

-- those before a node stand, and so does it
pub stand_split : (leaves : Leaves) (nodes : List Node) (node : Node) (rest : List Node) (stack : List Weighted)
    → stand_nodes leaves (nodes ++ node ∷ rest) stack
    → stand_nodes leaves nodes stack × stands_node node (after_nodes leaves nodes stack)
stand_split leaves [] node rest stack h = (tt, h.0)
stand_split leaves (n ∷ nodes) node rest stack h =
    let others = stand_split leaves nodes node rest (after_node leaves n stack) h.1 in
    ((h.0, others.0), others.1)

-- where both do, all do
pub stand_more : (leaves : Leaves) (nodes : List Node) (node : Node) (stack : List Weighted)
    → stand_nodes leaves nodes stack → stands_node node (after_nodes leaves nodes stack) → stand_nodes leaves (nodes ++ node ∷ []) stack
stand_more leaves [] node stack h k = (k, tt)
stand_more leaves (n ∷ nodes) node stack h k = (h.0, stand_more leaves nodes node (after_node leaves n stack) h.1 k)

-- the load of those before a node is within the bound, and so is its own
pub bear_split : (before after : Leaves) (nodes : List Node) (node : Node) (rest : List Node) (olds news : List Weighted)
    → bear_nodes before after (nodes ++ node ∷ rest) olds news
    → bear_nodes before after nodes olds news × bears_node node (after_nodes before nodes olds) (after_nodes after nodes news)
bear_split before after [] node rest olds news h = (tt, h.0)
bear_split before after (n ∷ nodes) node rest olds news h =
    let others = bear_split before after nodes node rest (after_node before n olds) (after_node after n news) h.1 in
    ((h.0, others.0), others.1)

-- where both are, all are
pub bear_both : (before after : Leaves) (nodes others : List Node) (olds news : List Weighted)
    → bear_nodes before after nodes olds news → bear_nodes before after others (after_nodes before nodes olds) (after_nodes after nodes news)
    → bear_nodes before after (nodes ++ others) olds news
bear_both before after [] others olds news h k = k
bear_both before after (n ∷ nodes) others olds news h k =
    (h.0, bear_both before after nodes others (after_node before n olds) (after_node after n news) h.1 k)

-- ---- runs

-- no nodes
pub run_none : (changes : Leaves) → IsRun changes [] [] []
run_none changes = record {
  runs = λ leaves more alike s. (tt, record { all = tt });
  same = λ leaves stack. refl;
  bears = λ before after olds news b. b;
  once = tt;
}

-- one node more
pub run_more : (changes : Leaves) (olds news : List Node) (old new : Node) (given made : List Weighted)
    → IsRun changes olds news given → IsNodeStep changes old new given made
    → IsRun changes (olds ++ old ∷ []) (news ++ new ∷ []) made
run_more changes olds news old new given made h k = record {
  runs = λ leaves more alike s.
      let parts = stand_split leaves olds old [] [] s in
      let before = h.runs leaves more alike parts.0 in
      let step = k.steps leaves more (after_nodes leaves olds []) (after_nodes more news []) alike before.1 parts.1 in (
        stand_more more news new [] before.0 step.0,
        subst (λ (p : List Weighted × List Weighted). AreChanged p.0 p.1 made)
            (sym (λ i. (after_append leaves olds (old ∷ []) [] i, after_append more news (new ∷ []) [] i))) step.1,
      );
  same = λ leaves stack. after_append leaves news (new ∷ []) stack ∙ ap (after_node leaves new) (h.same leaves stack)
      ∙ k.same leaves (after_nodes leaves olds stack) ∙ sym (after_append leaves olds (old ∷ []) stack);
  bears = λ before after os ns b.
      let parts = bear_split before after olds old [] os ns b in
      bear_both before after news (new ∷ []) os ns (h.bears before after os ns parts.0) (
        subst (λ (p : List Weighted × List Weighted). bears_node new p.0 p.1)
            (sym (λ i. (h.same before os i, h.same after ns i)))
            (k.bears (after_nodes before olds os) (after_nodes after olds ns) parts.1),
        tt,
      );
  once = k.once h.once;
}
