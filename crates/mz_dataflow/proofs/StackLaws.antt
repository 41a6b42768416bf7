-- What a node does with a stack of changes.
use Rattle.std.proofs.Common.{◌≡◌, ℕ, ◌+◌, ◌≤◌, ◌^◌, ◌==◌, ℤ, ◌+ℤ◌, Bool, true, false, cond, List, [], ◌∷◌, ◌++◌, refl, sym, ap, ◌∙◌, subst, arith, le_trans}
use Rattle.std.specs.FinMap.{empty}
use Rattle.std.specs.List.{AllByRecursion as Each}
use Rattle.mz_value.specs.Row.{row_cmp}
use Rattle.mz_bag.specs.Mass.{IsLight, mass}
use Rattle.mz_bag.specs.Weighted.{Weighted, count}
use Rattle.mz_bag.proofs.BagLaws.{count-append, entries-empty, IsDistinct-entries}
use Rattle.mz_plan.specs.Meaning.{Leaves}
use Rattle.mz_plan_laws.specs.Alike.{Alike}
use Rattle.mz_plan_laws.proofs.PlanMasses.{change_mass}
use Rattle.mz_ops.specs.Change.{IsBearable, IsChange, IsWithin, Load, Meaning, Standing}
use Rattle.mz_dataflow.specs.Nodes.{top, below, stands_node}
use Rattle.mz_dataflow.specs.Run.{changes_of, bears_node, AllChanged, AreChanged, IsBearableNode, IsNodeStep, IsOnce, IsOpStep}
use Rattle.mz_dataflow.specs.contracts.op.OpChanging.TheImpl.{ghosts}
use Rattle.mz_dataflow.specs.contracts.op.OpChanging.TheImpl.Laws.{reads-law, loads-law}
use Rattle.mz_dataflow.specs.declared.node.Node.{Node}
use Rattle.mz_dataflow.specs.declared.node.Node.TheVariants.{Leaf, Unary, Binary}
use Rattle.mz_dataflow.specs.declared.op.Op.{Op}

-- ---- stacks

-- the first rows have changed by the first change
pub top_changed : (os ns cs : List Weighted) → AllChanged os ns cs → Alike (top ns) (top os ++ top cs)
top_changed [] [] [] h = λ q. refl
top_changed (o ∷ os) (n ∷ ns) (c ∷ cs) h = h.0
top_changed [] [] (c ∷ cs) h = absurd h
top_changed [] (n ∷ ns) cs h = absurd h
top_changed (o ∷ os) [] cs h = absurd h
top_changed (o ∷ os) (n ∷ ns) [] h = absurd h

-- and those below them by those below it
pub below_changed : (os ns cs : List Weighted) → AllChanged os ns cs → AllChanged (below os) (below ns) (below cs)
below_changed [] [] [] h = tt
below_changed (o ∷ os) (n ∷ ns) (c ∷ cs) h = h.1
below_changed [] [] (c ∷ cs) h = absurd h
below_changed [] (n ∷ ns) cs h = absurd h
below_changed (o ∷ os) [] cs h = absurd h
below_changed (o ∷ os) (n ∷ ns) [] h = absurd h

-- no row stands twice where there is none
none_once : IsOnce []
none_once = subst IsOnce entries-empty (IsDistinct-entries (empty {X = ℤ} {R = row_cmp}))

-- no row stands twice in the first change
pub top_once : (cs : List Weighted) → Each IsOnce cs → IsOnce (top cs)
top_once [] h = none_once
top_once (c ∷ cs) h = h.0

-- nor in those below it
pub below_once : (cs : List Weighted) → Each IsOnce cs → Each IsOnce (below cs)
below_once [] h = tt
below_once (c ∷ cs) h = h.1

-- nor in a leaf's change
pub leaf_once : (cs : List (ℕ × Weighted)) (item : ℕ) → Each (λ c. IsOnce c.1) cs → IsOnce (changes_of cs item)
leaf_once [] item h = none_once
leaf_once (c ∷ cs) item h = by (c.0 == item) (leaf_once cs item h.1)
  where
    by : (b : Bool) → IsOnce (changes_of cs item) → IsOnce (cond b c.1 (changes_of cs item))
    by true k = h.0
    by false k = k

-- ---- operators

-- a change that counts as another one is one
pub change_alike : (meaning : Meaning) (before after : Standing) (left right out rows : Weighted) → IsChange meaning before after left right rows
    → Alike out rows → IsChange meaning before after left right out
change_alike meaning before after left right out rows h same = record {
  stands = h.stands;
  gives = λ ls rs s q. h.gives ls rs s q ∙ count-append q (meaning ls rs) rows ∙ ap (λ z. count q (meaning ls rs) +ℤ z) (sym (same q))
      ∙ sym (count-append q (meaning ls rs) out);
}

-- what comes of changes that can be borne is light
pub change_light : (stands : Standing) (load : Load) (left right out : Weighted) → IsBearable stands load left right
    → IsWithin stands load left right out → IsLight out
change_light stands load left right out h within = record { within = le_trans (within.most h.first h.second h.stand) h.within }

-- an operator over sides that have changed
op_changed : (old new : Op) (left right out ls rs ms ns : Weighted) → IsOpStep old new left right out
    → Alike ms (ls ++ left) → Alike ns (rs ++ right) → ghosts.stands old ls rs
    → ghosts.stands new ms ns × Alike (ghosts.meaning new ms ns) (ghosts.meaning old ls rs ++ out)
op_changed old new left right out ls rs ms ns step h k s = (
  (reads-law new).keeps (ls ++ left) (rs ++ right) ms ns (λ q. sym (h q)) (λ q. sym (k q)) (step.law.stands ls rs s),
  (λ q. ap (λ (m : Weighted → Weighted → Weighted). count q (m ms ns)) step.same
      ∙ (reads-law old).gives ms ns (ls ++ left) (rs ++ right) h k q ∙ step.law.gives ls rs s q),
)

-- changes can be borne where the load of the rows, and of changes that weigh as much as they before and after, is within
-- the bound
op_bears : (op : Op) (ls rs ms ns left right : Weighted) → ghosts.stands op ls rs → IsOnce left → IsOnce right
    → Alike ms (ls ++ left) → Alike ns (rs ++ right)
    → ghosts.load op (mass ls) (mass rs) (mass ls + mass ms) (mass rs + mass ns) ≤ 2 ^ 100
    → IsBearable (ghosts.stands op) (ghosts.load op) left right
op_bears op ls rs ms ns left right s f g h k within = record {
  first = ls;
  second = rs;
  stand = s;
  within = le_trans
      ((loads-law op).grows (mass ls) (mass rs) (mass left) (mass right) (mass ls) (mass rs) (mass ls + mass ms) (mass rs + mass ns)
      (omega arith) (omega arith) (change_mass ls ms left f h) (change_mass rs ns right g k)) within;
}

-- ---- nodes

-- a node can take its changes from the stack
pub node_bears : (node : Node) (olds news stack : List Weighted) → AllChanged olds news stack → Each IsOnce stack
    → stands_node node olds → bears_node node olds news → IsBearableNode node stack
node_bears (Leaf item) olds news stack h once s within = tt
node_bears (Unary op) olds news stack h once s within =
    op_bears op (top olds) [] (top news) [] (top stack) [] s (top_once stack once) none_once (top_changed olds news stack h) (λ q. refl) within
node_bears (Binary op) olds news stack h once s within =
    op_bears op (top (below olds)) (top olds) (top (below news)) (top news) (top (below stack)) (top stack) s
    (top_once (below stack) (below_once stack once)) (top_once stack once)
    (top_changed (below olds) (below news) (below stack) (below_changed olds news stack h)) (top_changed olds news stack h) within

-- a leaf puts its change
pub leaf_step : (changes : Leaves) (item : ℕ) (given made : List Weighted) → IsOnce (changes item) → made ≡ changes item ∷ given
    → IsNodeStep changes (Leaf item) (Leaf item) given made
leaf_step changes item given made once is = record {
  steps = λ leaves more olds news alike h s. (
    tt,
    subst (λ cs. AreChanged (leaves item ∷ olds) (more item ∷ news) cs) (sym is)
        (record { all = (alike item, h.all) }),
  );
  same = λ leaves stack. refl;
  bears = λ olds news b. b;
  once = λ h. subst (λ cs. Each IsOnce cs) (sym is) (once, h);
}

-- an operator of one side
pub unary_step : (changes : Leaves) (old new : Op) (given made : List Weighted) (out : Weighted) → made ≡ out ∷ below given
    → IsOpStep old new (top given) [] out → IsNodeStep changes (Unary old) (Unary new) given made
unary_step changes old new given made out is step = record {
  steps = λ leaves more olds news alike h s.
      let both = op_changed old new (top given) [] out (top olds) [] (top news) [] step (top_changed olds news given h.all) (λ q. refl) s in (
        both.0,
        subst (λ cs. AreChanged (ghosts.meaning old (top olds) [] ∷ below olds) (ghosts.meaning new (top news) [] ∷ below news) cs) (sym is)
            (record { all = (both.1, below_changed olds news given h.all) }),
      );
  same = λ leaves stack. ap (λ (m : Weighted → Weighted → Weighted). m (top stack) [] ∷ below stack) step.same;
  bears = λ olds news b. subst (λ (l : ℕ → ℕ → ℕ → ℕ → ℕ). l (mass (top olds)) 0 (mass (top olds) + mass (top news)) 0 ≤ 2 ^ 100) (sym step.same_load) b;
  once = λ h. subst (λ cs. Each IsOnce cs) (sym is) (step.once, below_once given h);
}

-- an operator of two sides
pub binary_step : (changes : Leaves) (old new : Op) (given made : List Weighted) (out : Weighted) → made ≡ out ∷ below (below given)
    → IsOpStep old new (top (below given)) (top given) out → IsNodeStep changes (Binary old) (Binary new) given made
binary_step changes old new given made out is step = record {
  steps = λ leaves more olds news alike h s.
      let first = below_changed olds news given h.all in
      let both = op_changed old new (top (below given)) (top given) out (top (below olds)) (top olds) (top (below news)) (top news) step
      (top_changed (below olds) (below news) (below given) first) (top_changed olds news given h.all) s in (
        both.0,
        subst (λ cs. AreChanged (ghosts.meaning old (top (below olds)) (top olds) ∷ below (below olds))
            (ghosts.meaning new (top (below news)) (top news) ∷ below (below news)) cs) (sym is)
            (record { all = (both.1, below_changed (below olds) (below news) (below given) first) }),
      );
  same = λ leaves stack. ap (λ (m : Weighted → Weighted → Weighted). m (top (below stack)) (top stack) ∷ below (below stack)) step.same;
  bears = λ olds news b.
      subst (λ (l : ℕ → ℕ → ℕ → ℕ → ℕ). l (mass (top (below olds))) (mass (top olds)) (mass (top (below olds)) + mass (top (below news)))
      (mass (top olds) + mass (top news)) ≤ 2 ^ 100) (sym step.same_load) b;
  once = λ h. subst (λ cs. Each IsOnce cs) (sym is) (step.once, below_once (below given) (below_once given h));
}
