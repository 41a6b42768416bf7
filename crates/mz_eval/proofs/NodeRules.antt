-- The nodes that stand one below another under a plan: how much is left below each, and what is made from the last to the first.
use Rattle.std.proofs.Common.{◌≡◌, refl, ap, sym, subst, ◌∙◌, ℕ, ◌+◌, ◌≤◌, ◌==◌, Bool, true, false, cond, arith, ◌++◌, List, [], ◌∷◌, map, Option, None, Some, option_map}
use Rattle.std.proofs.lemmas.List.{map-append}
use Rattle.mz_plan.specs.Spine.{first_of, Leads}
use Rattle.mz_plan.specs.declared.plan.Plan.{Plan, Table, Index, Filter', Project', Join', Union', Group', Distinct', more_of-Plan, end_of-Plan}
use Rattle.mz_plan.proofs.FirstRules.{steps}
use Rattle.mz_plan.proofs.SpineRules.{leads_back}
use Rattle.mz_eval.specs.Nodes.{AreNodes, Node, index_node, next_of, node_below}

-- ---- how much is left

-- the operators of all the plans, and one more for each
abbrev pub all_steps : List (ℕ × Plan) → ℕ
all_steps [] = 0
all_steps (newest ∷ older) = steps newest.1 + 1 + all_steps older

-- of a node, the operators of its plan and of the plans of the indexes that it sees
abbrev pub weight : Node → ℕ
weight node = steps node.0 + all_steps node.1

-- and one more, where there is a node
abbrev pub some_weight : Option Node → ℕ
some_weight None = 0
some_weight (Some node) = weight node + 1

-- an index's plan has no more than all
index_lighter : (plans : List (ℕ × Plan)) (item : ℕ) → some_weight (index_node plans item) ≤ all_steps plans
index_lighter [] item = omega arith
index_lighter (newest ∷ older) item = by (newest.0 == item) (index_lighter older item)
  where
    by : (c : Bool) → some_weight (index_node older item) ≤ all_steps older
        → some_weight (cond c (Some (newest.1, older)) (index_node older item)) ≤ all_steps (newest ∷ older)
    by true rest = omega arith
    by false rest = omega (arith, rest)

-- a step down leaves less
pub below_lighter : (plans : List (ℕ × Plan)) (plan : Plan) → some_weight (node_below plans plan) ≤ steps plan + all_steps plans
below_lighter plans (Table item) = omega arith
below_lighter plans (Index item) = omega (arith, index_lighter plans item)
below_lighter plans (Filter' s (more_of-Plan plan end_of-Plan) test) = omega arith
below_lighter plans (Project' s (more_of-Plan plan end_of-Plan) places) = omega arith
below_lighter plans (Join' s (more_of-Plan left end_of-Plan) r (more_of-Plan right end_of-Plan) pairs) = omega arith
below_lighter plans (Union' s (more_of-Plan left end_of-Plan) r (more_of-Plan right end_of-Plan)) = omega arith
below_lighter plans (Group' s (more_of-Plan plan end_of-Plan) places aggregates) = omega arith
below_lighter plans (Distinct' s (more_of-Plan plan end_of-Plan)) = omega arith

-- so no node has more than the first
pub leads_lighter : (first : Option Node) (nodes : List Node) (last : Option Node) → Leads next_of first nodes last
    → some_weight last ≤ some_weight first
leads_lighter first [] last h = omega (arith, ap some_weight h)
leads_lighter first (n ∷ ns) last h =
    omega (arith, ap some_weight h.0, below_lighter n.1 n.0, leads_lighter (next_of n) ns last h.1)

-- ---- what is made

-- nodes that are left, and what is made of the one that they lead to, or of none at the beginning
pub record Rises {M : Type 0} (Is : Option Node → M → Type 0) (first : Node) (nodes : List Node) (made : M) : Type 0 where
  pub at : Option Node
  pub leads : Leads next_of (Some first) nodes at
  pub is : Is at made

-- at the beginning it is of none
pub rises_first : {M : Type 0} (Is : Option Node → M → Type 0) (first : Node) (nodes : List Node) (made : M) → AreNodes first nodes
    → Is None made → Rises Is first nodes made
rises_first Is first nodes made h is = record { at = None; leads = h; is = is }

-- the last node is taken from those that are left, which lead to it, and what is made is of the one below it
pub rises_taken : {M A : Type 0} (view : A → Node) (Is : Option Node → M → Type 0) (first : Node) (before after : List A) (one : A) (made : M)
    → before ≡ after ++ (one ∷ []) → Rises Is first (map view before) made
    → Leads next_of (Some first) (map view after) (Some (view one)) × Is (next_of (view one)) made
rises_taken view Is first before after one made same h =
    let back = leads_back next_of (Some first) (map view after) (view one) h.at
    (subst (λ ns. Leads next_of (Some first) ns h.at) (ap (map view) same ∙ map-append view after (one ∷ [])) h.leads) in
    (back.0, subst (λ o. Is o made) (sym back.1) h.is)

-- then it is made of that node
pub rises_more : {M A : Type 0} (view : A → Node) (Is : Option Node → M → Type 0) (first : Node) (before after : List A) (one : A)
    (made over : M) → before ≡ after ++ (one ∷ []) → Rises Is first (map view before) made → Is (Some (view one)) over
    → Rises Is first (map view after) over
rises_more view Is first before after one made over same h is =
    record { at = Some (view one); leads = (rises_taken view Is first before after one made same h).0; is = is }

-- at the end it is of the first
pub rises_last : {M : Type 0} (Is : Option Node → M → Type 0) (first : Node) (made : M) → Rises Is first [] made → Is (Some first) made
rises_last Is first made h = subst (λ o. Is o made) (sym h.leads) h.is

-- the last node that is left has no more than the first
pub rises_lighter : {M A : Type 0} (view : A → Node) (Is : Option Node → M → Type 0) (first : Node) (before after : List A) (one : A)
    (made : M) → before ≡ after ++ (one ∷ []) → Rises Is first (map view before) made → weight (view one) ≤ weight first
rises_lighter view Is first before after one made same h =
    omega (
      arith,
      leads_lighter (Some first) (map view after) (Some (view one)) (rises_taken view Is first before after one made same h).0,
    )

-- below an operator is its first plan, which sees the same indexes
pub below_first : (plans : List (ℕ × Plan)) (plan below : Plan) → first_of plan ≡ Some below → node_below plans plan ≡ Some (below, plans)
below_first plans (Table item) below h = absurd cc
below_first plans (Index item) below h = absurd cc
below_first plans (Filter' s (more_of-Plan plan end_of-Plan) test) below h = ap (option_map (λ first. (first, plans))) h
below_first plans (Project' s (more_of-Plan plan end_of-Plan) places) below h = ap (option_map (λ first. (first, plans))) h
below_first plans (Join' s (more_of-Plan plan end_of-Plan) r (more_of-Plan right end_of-Plan) pairs) below h =
    ap (option_map (λ first. (first, plans))) h
below_first plans (Union' s (more_of-Plan plan end_of-Plan) r (more_of-Plan right end_of-Plan)) below h =
    ap (option_map (λ first. (first, plans))) h
below_first plans (Group' s (more_of-Plan plan end_of-Plan) places aggregates) below h = ap (option_map (λ first. (first, plans))) h
below_first plans (Distinct' s (more_of-Plan plan end_of-Plan)) below h = ap (option_map (λ first. (first, plans))) h
