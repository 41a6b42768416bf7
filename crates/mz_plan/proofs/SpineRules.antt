-- Nodes that lead from one to the next, and what is made of them from the last to the first.
use Rattle.std.proofs.Common.{◌≡◌, refl, ap, sym, subst, ◌∙◌, ℕ, ◌+◌, ◌≤◌, ◌<◌, arith, ◌++◌, List, [], ◌∷◌, map, Option, None, Some, option_map}
use Rattle.std.proofs.lemmas.List.{map-append}
use Rattle.mz_plan.specs.Spine.{first_of, Leads}
use Rattle.mz_plan.specs.declared.plan.Plan.{Plan}
use Rattle.mz_plan.proofs.FirstRules.{first_fewer, steps}

-- ---- nodes

-- one node more
leads_more : {N : Type 0} (next : N → Option N) (first : Option N) (ns : List N) (n : N) → Leads next first ns (Some n)
    → Leads next first (ns ++ (n ∷ [])) (next n)
leads_more next first [] n h = (h, refl)
leads_more next first (m ∷ ns) n h = (h.0, leads_more next (next m) ns n h.1)

-- the last node
pub leads_back : {N : Type 0} (next : N → Option N) (first : Option N) (ns : List N) (n : N) (last : Option N)
    → Leads next first (ns ++ (n ∷ [])) last → Leads next first ns (Some n) × (next n ≡ last)
leads_back next first [] n last h = h
leads_back next first (m ∷ ns) n last h =
    let rest = leads_back next (next m) ns n last h.1 in
    ((h.0, rest.0), rest.1)

-- one node more, of values that are seen as nodes
pub leads_pushed : {N A : Type 0} (view : A → N) (next : N → Option N) (first : Option N) (before after : List A) (one : A)
    (at below : Option A) → Leads next first (map view before) (option_map view at) → at ≡ Some one → after ≡ before ++ (one ∷ [])
    → option_map view below ≡ next (view one) → Leads next first (map view after) (option_map view below)
leads_pushed view next first before after one at below h is pushed same =
    subst (λ o. Leads next first (map view after) o) (sym same)
    (subst (λ ns. Leads next first ns (next (view one))) (sym (ap (map view) pushed ∙ map-append view before (one ∷ [])))
    (leads_more next first (map view before) (view one) (subst (λ o. Leads next first (map view before) (option_map view o)) is h)))

-- ---- plans

-- how many operators a plan has and one more, where there is one
abbrev pub some_steps : Option Plan → ℕ
some_steps None = 0
some_steps (Some plan) = steps plan + 1

-- a step down leaves fewer
pub some_fewer_below : (plan : Plan) (below : Option Plan) → below ≡ first_of plan → some_steps below < steps plan + 1
some_fewer_below plan None h = omega arith
some_fewer_below plan (Some below) h = omega (arith, first_fewer plan below (sym h))

-- no plan has more operators than the first
leads_fewer : (first : Option Plan) (ns : List Plan) (last : Option Plan) → Leads first_of first ns last
    → some_steps last ≤ some_steps first
leads_fewer first [] last h = omega (arith, ap some_steps h)
leads_fewer first (n ∷ ns) last h =
    omega (arith, ap some_steps h.0, some_fewer_below n (first_of n) refl, leads_fewer (first_of n) ns last h.1)

-- ---- what is made

-- what is made is that of the node, where there is one
abbrev pub IsMade : {N M : Type 0} → (N → M → Type 0) → Option N → M → Type 0
IsMade Is None made = Unit {0}
IsMade Is (Some n) made = Is n made

-- nodes that are left, and what is made of the one that they lead to
pub record Rises {N M : Type 0} (next : N → Option N) (Is : N → M → Type 0) (first : Option N) (ns : List N) (made : M) : Type 0 where
  pub at : Option N
  pub leads : Leads next first ns at
  pub is : IsMade Is at made

-- at the beginning nothing is made
pub rises_first : {N M : Type 0} (next : N → Option N) (Is : N → M → Type 0) (first : Option N) (ns : List N) (made : M)
    → Leads next first ns None → Rises next Is first ns made
rises_first next Is first ns made h = record { at = None; leads = h; is = tt }

-- a node is taken from those that are left
pub rises_taken : {N M A : Type 0} (view : A → N) (next : N → Option N) (Is : N → M → Type 0) (first : Option N) (before after : List A)
    (one : A) (made : M) → before ≡ after ++ (one ∷ []) → Rises next Is first (map view before) made
    → Rises next Is first (map view after ++ (view one ∷ [])) made
rises_taken view next Is first before after one made same h =
    subst (λ ns. Rises next Is first ns made) (ap (map view) same ∙ map-append view after (one ∷ [])) h

-- and made over what is below it
pub rises_more : {N M : Type 0} (next : N → Option N) (Is : N → M → Type 0) (first : Option N) (ns : List N) (one : N) (made over : M)
    → Rises next Is first (ns ++ (one ∷ [])) made → (IsMade Is (next one) made → Is one over) → Rises next Is first ns over
rises_more next Is first ns one made over h up =
    let back = leads_back next first ns one h.at h.leads in
    record {
      at = Some one;
      leads = back.0;
      is = up (subst (λ o. IsMade Is o made) (sym back.1) h.is);
    }

-- at the end all is made
pub rises_last : {N M : Type 0} (next : N → Option N) (Is : N → M → Type 0) (first : N) (made : M) → Rises next Is (Some first) [] made
    → Is first made
rises_last next Is first made h = subst (λ o. IsMade Is o made) (sym h.leads) h.is

-- the last plan that is left has no more operators than the first
pub rises_fewer : {M : Type 0} (Is : Plan → M → Type 0) (plan : Plan) (ns : List Plan) (one : Plan) (made : M)
    → Rises first_of Is (Some plan) (ns ++ (one ∷ [])) made → steps one ≤ steps plan
rises_fewer Is plan ns one made h =
    omega (arith, leads_fewer (Some plan) ns (Some one) (leads_back first_of (Some plan) ns one h.at h.leads).0)
