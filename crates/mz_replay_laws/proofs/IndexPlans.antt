-- Collections have numbers of their own, and each that is present the plan of its item, where that is an index.
use Rattle.std.proofs.Common.{◌≡◌, ◌<◌, ◌≤◌, ◌+◌, ◌==◌, ℕ, true, List, [], ◌∷◌, ◌++◌, map, length, Some, refl, sym, ap, subst, ◌∙◌, arith}
use Rattle.std.proofs.lemmas.Bool.{cond-true, eq-eqb}
use Rattle.std.proofs.lemmas.List.{length-append, length-map}
use Rattle.std.specs.List.{AllByRecursion as Each}
use Rattle.mz_plan.specs.Items.{is_index}
use Rattle.mz_plan.specs.declared.plan.Plan.{Plan}
use Rattle.mz_plan_laws.proofs.TypedValues.{each_append, each_map, each_weaker}
use Rattle.mz_rules.specs.declared.capability.Collection.{Collection}
use Rattle.mz_books.specs.Collections.{is_in_catalog}
use Rattle.mz_log.specs.Sequential.{Sequential}
use Rattle.mz_replay_laws.proofs.Found.{IsMoved, plan_in, plan_moved, plan_more, plan_past}
use Rattle.mz_call_laws.specs.Members.{Has}

-- where an index has this number, it was made with this plan
abbrev pub IsPlanOf : Sequential → ℕ → Plan → Type 0
IsPlanOf state number plan =
    Each (λ item. item.id ≡ number → is_index item.kind ≡ true → Has (number, plan) state.plans) state.database.items

-- a collection that is present is that of a number which was used, and has its plan
pub record IsOwn (state : Sequential) (number : ℕ) (plan : Plan) : Type 0 where
  pub used : number < state.database.next
  pub own : IsPlanOf state number plan

-- so it is with a collection, where it is present
abbrev pub HasPlan : Sequential → Collection → Type 0
HasPlan state c = is_in_catalog c ≡ true → IsOwn state c.item c.plan

-- the collections are numbered up to their length, each is found under its number, and each has its plan
pub record Fits (state : Sequential) (cs : List Collection) : Type 0 where
  pub numbers : Each (λ c. c.number ≤ length cs) cs
  pub found : Each (λ c. plan_in c.number cs ≡ Some c.plan) cs
  pub plans : Each (HasPlan state) cs

-- a collection that moves keeps its plan
plan_kept : (state : Sequential) (before after : Collection) → IsMoved before after → HasPlan state before → HasPlan state after
plan_kept state before after moved h =
    λ present. subst (λ plan. IsOwn state after.item plan) (sym moved.plan)
    (subst (λ item. IsOwn state item before.plan) (sym moved.item) (h (moved.present present)))

-- so collections that move fit still
pub fits_moved : (state : Sequential) (f : Collection → Collection) → ((c : Collection) → IsMoved c (f c)) → (cs : List Collection)
    → Fits state cs → Fits state (map f cs)
fits_moved state f moved cs fits = record {
  numbers = each_map (λ d. d.number ≤ length (map f cs)) f cs
      (each_weaker (λ c. c.number ≤ length cs) (λ c. (f c).number ≤ length (map f cs))
      (λ c h. let same = (moved c).number in let long = length-map cs f in omega (arith, h, same, long)) cs fits.numbers);
  found = each_map (λ d. plan_in d.number (map f cs) ≡ Some d.plan) f cs
      (each_weaker (λ c. plan_in c.number cs ≡ Some c.plan) (λ c. plan_in (f c).number (map f cs) ≡ Some (f c).plan)
      (λ c h. ap (λ n. plan_in n (map f cs)) (moved c).number ∙ plan_moved f moved c.number cs ∙ h ∙ sym (ap Some (moved c).plan)) cs fits.found);
  plans = each_map (HasPlan state) f cs (each_weaker (HasPlan state) (λ c. HasPlan state (f c)) (λ c. plan_kept state c (f c) (moved c)) cs fits.plans);
}

-- and so they do with one more, under the next number
pub fits_more : (state : Sequential) (cs : List Collection) (new : Collection) → new.number ≡ length cs + 1 → HasPlan state new → Fits state cs
    → Fits state (cs ++ new ∷ [])
fits_more state cs new next own fits =
    let long = length-append cs (new ∷ []) in
    record {
      numbers = each_append (λ c. c.number ≤ length (cs ++ new ∷ [])) cs (new ∷ [])
          (each_weaker (λ c. c.number ≤ length cs) (λ c. c.number ≤ length (cs ++ new ∷ [])) (λ c h. omega (arith, h, long)) cs fits.numbers)
          (omega (arith, next, long), tt);
      found = each_append (λ c. plan_in c.number (cs ++ new ∷ []) ≡ Some c.plan) cs (new ∷ [])
          (each_weaker (λ c. plan_in c.number cs ≡ Some c.plan) (λ c. plan_in c.number (cs ++ new ∷ []) ≡ Some c.plan)
          (λ c h. plan_more c.number c.plan cs (new ∷ []) h) cs fits.found) (
            plan_past new.number (length cs) cs (new ∷ []) fits.numbers (omega (arith, next))
                ∙ cond-true (new.number == new.number) _ _ (eq-eqb new.number new.number refl),
            tt,
          );
      plans = each_append (HasPlan state) cs (new ∷ []) fits.plans (own, tt);
    }

-- where each that has its plan in a state has it in another, they fit that
pub fits_after : (before after : Sequential) (cs : List Collection) → ((number : ℕ) (plan : Plan) → IsOwn before number plan → IsOwn after number plan)
    → Fits before cs → Fits after cs
fits_after before after cs later fits = record {
  numbers = fits.numbers;
  found = fits.found;
  plans = each_weaker (HasPlan before) (HasPlan after) (λ c h present. later c.item c.plan (h present)) cs fits.plans;
}
