-- A plan's nodes come to be from the end of its spine.
use Rattle.std.proofs.Common.{◌≡◌, ℕ, ◌≤◌, List, [], ◌∷◌, ◌++◌, map, refl, sym, ap, ◌∙◌, subst, append_assoc, Option, None, Some}
use Rattle.std.proofs.lemmas.List.{map-append}
use Rattle.std.specs.List.{AllByRecursion as Each}
use Rattle.mz_bag.specs.Weighted.{Weighted}
use Rattle.mz_plan.specs.Meaning.{Leaves}
use Rattle.mz_plan.specs.Spine.{first_of, Leads}
use Rattle.mz_plan.specs.declared.plan.Plan.{Plan}
use Rattle.mz_plan.proofs.FirstRules.{steps}
use Rattle.mz_plan.proofs.SpineRules.{leads_back, rises_fewer, IsMade}
use Rattle.mz_ops.specs.Change.{Load}
use Rattle.mz_dataflow.specs.Built.{bears_plan, meaning_of_ints, IsBinaryNode, IsBuilt, IsBuiltOn, IsUnaryNode, Puts}
use Rattle.mz_dataflow.specs.Nodes.{after_node, after_nodes, below, top, IsFresh}
use Rattle.mz_dataflow.specs.Run.{within_binary, within_unary}
use Rattle.mz_dataflow.specs.declared.node.Node.{Node}
use Rattle.mz_dataflow.specs.declared.node.Node.TheVariants.{Leaf}
use Rattle.mz_dataflow.proofs.RunLaws.{after_append, bear_both}

-- ---- one plan

-- what holds of each and of one more
each_more : (nodes : List Node) (node : Node) → Each IsFresh nodes → IsFresh node → Each IsFresh (nodes ++ node ∷ [])
each_more [] node h k = (k, tt)
each_more (n ∷ nodes) node h k = (h.0, each_more nodes node h.1 k)

each_both : (nodes more : List Node) → Each IsFresh nodes → Each IsFresh more → Each IsFresh (nodes ++ more)
each_both [] more h k = k
each_both (n ∷ nodes) more h k = (h.0, each_both nodes more h.1 k)

-- a leaf
pub leaf_next : (plan : Plan) (item : ℕ) (old new : List Node) → first_of plan ≡ None → ((leaves : Leaves) → meaning_of_ints leaves plan ≡ leaves item)
    → new ≡ old ++ Leaf item ∷ [] → (front : List Node) → IsBuiltOn front (first_of plan) old → IsBuilt plan front new
leaf_next plan item old new first same is front h = record {
  more = Leaf item ∷ [];
  behind = is ∙ ap (λ ns. ns ++ Leaf item ∷ []) (subst (λ o. IsBuiltOn front o old) first h);
  puts = record { puts = λ leaves stack. ap (λ ws. ws ∷ stack) (sym (same leaves)) };
  bears = record { bears = λ before after olds news w. (tt, tt) };
  fresh = (tt, tt);
}

-- an operator of one side
pub unary_next : (made : Weighted → Weighted) (load : Load) (plan under : Plan) (node : Node) (old new : List Node) → first_of plan ≡ Some under
    → ((leaves : Leaves) → meaning_of_ints leaves plan ≡ made (meaning_of_ints leaves under))
    → ((before after : Leaves) → bears_plan before after plan
    → within_unary load (meaning_of_ints before under) (meaning_of_ints after under) × bears_plan before after under)
    → IsUnaryNode made load node
    → new ≡ old ++ node ∷ [] → (front : List Node) → IsBuiltOn front (first_of plan) old → IsBuilt plan front new
unary_next made load plan under node old new first same borne n is front h =
    let b : IsBuilt under front old = subst (λ o. IsBuiltOn front o old) first h in
    record {
      more = b.more ++ node ∷ [];
      behind = is ∙ ap (λ ns. ns ++ node ∷ []) b.behind ∙ append_assoc front b.more (node ∷ []);
      puts = record {
        puts = λ leaves stack. after_append leaves b.more (node ∷ []) stack ∙ ap (after_node leaves node) (b.puts.puts leaves stack)
            ∙ n.puts leaves (meaning_of_ints leaves under ∷ stack) ∙ ap (λ ws. ws ∷ stack) (sym (same leaves));
      };
      bears = record {
        bears = λ before after olds news w.
            let parts = borne before after w in
            bear_both before after b.more (node ∷ []) olds news (b.bears.bears before after olds news parts.1) (
              n.bears (after_nodes before b.more olds) (after_nodes after b.more news)
                  (subst (λ (p : List Weighted × List Weighted). within_unary load (top p.0) (top p.1))
                  (sym (λ i. (b.puts.puts before olds i, b.puts.puts after news i))) parts.0),
              tt,
            );
      };
      fresh = each_more b.more node b.fresh n.fresh;
    }

-- two plans one behind the other put the rows of both
two_put : (left right : Plan) (ls rs : List Node) → Puts left ls → Puts right rs → (leaves : Leaves) (stack : List Weighted)
    → after_nodes leaves (ls ++ rs) stack ≡ meaning_of_ints leaves right ∷ meaning_of_ints leaves left ∷ stack
two_put left right ls rs h k leaves stack =
    after_append leaves ls rs stack ∙ ap (after_nodes leaves rs) (h.puts leaves stack) ∙ k.puts leaves (meaning_of_ints leaves left ∷ stack)

-- and an operator of two sides
pub binary_next : (made : Weighted → Weighted → Weighted) (load : Load) (plan left right : Plan) (node : Node) (old between new : List Node)
    → first_of plan ≡ Some left
    → ((leaves : Leaves) → meaning_of_ints leaves plan ≡ made (meaning_of_ints leaves left) (meaning_of_ints leaves right))
    → ((before after : Leaves) → bears_plan before after plan
    → within_binary load (meaning_of_ints before left) (meaning_of_ints after left) (meaning_of_ints before right) (meaning_of_ints after right)
    × bears_plan before after left × bears_plan before after right)
    → IsBinaryNode made load node → IsBuilt right old between
    → new ≡ between ++ node ∷ [] → (front : List Node) → IsBuiltOn front (first_of plan) old → IsBuilt plan front new
binary_next made load plan left right node old between new first same borne n r is front h =
    let b : IsBuilt left front old = subst (λ o. IsBuiltOn front o old) first h in
    let two = two_put left right b.more r.more b.puts r.puts in
    record {
      more = (b.more ++ r.more) ++ node ∷ [];
      behind = is ∙ ap (λ ns. ns ++ node ∷ []) (r.behind ∙ ap (λ ns. ns ++ r.more) b.behind ∙ append_assoc front b.more r.more)
          ∙ append_assoc front (b.more ++ r.more) (node ∷ []);
      puts = record {
        puts = λ leaves stack. after_append leaves (b.more ++ r.more) (node ∷ []) stack ∙ ap (after_node leaves node) (two leaves stack)
            ∙ n.puts leaves (meaning_of_ints leaves right ∷ meaning_of_ints leaves left ∷ stack) ∙ ap (λ ws. ws ∷ stack) (sym (same leaves));
      };
      bears = record {
        bears = λ before after olds news w.
            let parts = borne before after w in
            bear_both before after (b.more ++ r.more) (node ∷ []) olds news
            (bear_both before after b.more r.more olds news (b.bears.bears before after olds news parts.1)
            (r.bears.bears before after (after_nodes before b.more olds) (after_nodes after b.more news) parts.2)) (
              n.bears (after_nodes before (b.more ++ r.more) olds) (after_nodes after (b.more ++ r.more) news)
                  (subst (λ (p : List Weighted × List Weighted). within_binary load (top (below p.0)) (top (below p.1)) (top p.0) (top p.1))
                  (sym (λ i. (two before olds i, two after news i))) parts.0),
              tt,
            );
      };
      fresh = each_more (b.more ++ r.more) node (each_both b.more r.more b.fresh r.fresh) n.fresh;
    }

-- ---- the spine

-- plans that are left, and the nodes of the one that they lead to
pub record IsRising (front : List Node) (plan : Plan) (spine : List Plan) (all : List Node) : Type 0 where
  pub at : Option Plan
  pub leads : Leads first_of (Some plan) spine at
  pub is : IsBuiltOn front at all

-- at first there is none
pub rising_first : (front : List Node) (plan : Plan) (spine : List Plan) → Leads first_of (Some plan) spine None → IsRising front plan spine front
rising_first front plan spine h = record { at = None; leads = h; is = refl }

-- a plan is taken from those that are left
taken_back : {A : Type 0} (view : A → Plan) (front : List Node) (plan : Plan) (before after : List A) (one : A) (all : List Node)
    → before ≡ after ++ (one ∷ []) → IsRising front plan (map view before) all
    → Leads first_of (Some plan) (map view after) (Some (view one)) × IsBuiltOn front (first_of (view one)) all
taken_back view front plan before after one all same h =
    let back = leads_back first_of (Some plan) (map view after) (view one) h.at
    (subst (λ ps. Leads first_of (Some plan) ps h.at) (ap (map view) same ∙ map-append view after (one ∷ [])) h.leads) in
    (back.0, subst (λ o. IsBuiltOn front o all) (sym back.1) h.is)

-- and its nodes come behind
pub rising_more : {A : Type 0} (view : A → Plan) (front : List Node) (plan : Plan) (before after : List A) (one : A) (all more : List Node)
    → before ≡ after ++ (one ∷ []) → IsRising front plan (map view before) all
    → ((others : List Node) → IsBuiltOn others (first_of (view one)) all → IsBuilt (view one) others more)
    → IsRising front plan (map view after) more
rising_more view front plan before after one all more same h up =
    let back = taken_back view front plan before after one all same h in
    record { at = Some (view one); leads = back.0; is = up front back.1 }

-- at the end they are those of the first
pub rising_last : (front : List Node) (plan : Plan) (all : List Node) → IsRising front plan [] all → IsBuilt plan front all
rising_last front plan all h = subst (λ o. IsBuiltOn front o all) (sym h.leads) h.is

-- of any plan nothing is said
nothing : (o : Option Plan) → IsMade (λ (p : Plan) (ns : List Node). Unit {0}) o []
nothing None = tt
nothing (Some p) = tt

-- the next plan has no more operators than the first
pub rising_fewer : {A : Type 0} (view : A → Plan) (front : List Node) (plan : Plan) (before after : List A) (one : A) (all : List Node)
    → before ≡ after ++ (one ∷ []) → IsRising front plan (map view before) all → steps (view one) ≤ steps plan
rising_fewer view front plan before after one all same h =
    rises_fewer (λ (p : Plan) (ns : List Node). Unit {0}) plan (map view after) (view one) []
    (record {
      at = h.at;
      leads = subst (λ ps. Leads first_of (Some plan) ps h.at) (ap (map view) same ∙ map-append view after (one ∷ [])) h.leads;
      is = nothing h.at;
    })
