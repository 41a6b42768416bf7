-- Which plan stands under a number of a collection.
use Rattle.std.proofs.Common.{◌≡◌, ◌<◌, ◌≤◌, ◌==◌, ℕ, Bool, true, false, cond, List, [], ◌∷◌, ◌++◌, map, Option, None, Some, refl, sym, ◌∙◌, arith}
use Rattle.std.proofs.lemmas.Bool.{cond-false, false≢true, ne_eqb}
use Rattle.std.specs.FinMap.{empty}
use Rattle.std.specs.List.{AllByRecursion as Each}
use Rattle.std.specs.Option.{option_map_or}
use Rattle.mz_time.specs.declared.frontier.Frontier.{Frontier}
use Rattle.mz_time.specs.declared.frontier.Frontier.TheVariants.{At, Done}
use Rattle.mz_bag.specs.Bag.{Counts}
use Rattle.mz_statement.specs.declared.statement.Keep.{Keep}
use Rattle.mz_plan.specs.declared.plan.Plan.{Plan}
use Rattle.mz_rules.specs.Frontiers.{is_at}
use Rattle.mz_rules.specs.Joining.{is_table}
use Rattle.mz_rules.specs.Moves.{come_to, kept_by, let_go}
use Rattle.mz_rules.specs.Policy.{raised}
use Rattle.mz_rules.specs.declared.capability.Collection.{Collection}
use Rattle.mz_books.specs.Collections.{advanced, is_called, is_in_catalog, numbered, reported, retained, without_item}

-- the plan of the collection of this number, where there is one
abbrev pub plan_in : ℕ → List Collection → Option Plan
plan_in number [] = None
plan_in number (c ∷ cs) = cond (c.number == number) (Some c.plan) (plan_in number cs)

-- what a function gives of it
pub of_plan_in : (f : Plan → Counts) (number : ℕ) (cs : List Collection)
    → option_map_or (λ c. f c.plan) (numbered number cs) empty ≡ option_map_or f (plan_in number cs) empty
of_plan_in f number [] = refl
of_plan_in f number (c ∷ cs) =
    elim (c.number == number) as (λ b. option_map_or (λ c. f c.plan) (cond b (Some c) (numbered number cs)) empty
    ≡ option_map_or f (cond b (Some c.plan) (plan_in number cs)) empty) [
      | true ↦ refl
      | false ↦ of_plan_in f number cs
    ]

-- ---- more collections

-- a plan that is found is found still
pub plan_more : (number : ℕ) (plan : Plan) (cs ds : List Collection) → plan_in number cs ≡ Some plan → plan_in number (cs ++ ds) ≡ Some plan
plan_more number plan [] ds h = absurd (cc)
plan_more number plan (c ∷ cs) ds h = by (c.number == number) h (plan_more number plan cs ds)
  where
    by : (b : Bool) → cond b (Some c.plan) (plan_in number cs) ≡ Some plan
        → (plan_in number cs ≡ Some plan → plan_in number (cs ++ ds) ≡ Some plan)
        → cond b (Some c.plan) (plan_in number (cs ++ ds)) ≡ Some plan
    by true is rest = is
    by false is rest = rest is

-- and past those of lower numbers the search goes on
pub plan_past : (number limit : ℕ) (cs ds : List Collection) → Each (λ c. c.number ≤ limit) cs → limit < number
    → plan_in number (cs ++ ds) ≡ plan_in number ds
plan_past number limit [] ds low h = refl
plan_past number limit (c ∷ cs) ds low h =
    let own = low.0 in cond-false _ _ _ (ne_eqb c.number number (λ e. omega arith)) ∙ plan_past number limit cs ds low.1 h

-- ---- collections that move

-- a collection is as it was but for how far it has come and how long it is kept; what is present was so
pub record IsMoved (before after : Collection) : Type 0 where
  pub number : after.number ≡ before.number
  pub item : after.item ≡ before.item
  pub plan : after.plan ≡ before.plan
  pub present : is_in_catalog after ≡ true → is_in_catalog before ≡ true

-- collections that move keep their plans
pub plan_moved : (f : Collection → Collection) → ((c : Collection) → IsMoved c (f c)) → (number : ℕ) (cs : List Collection)
    → plan_in number (map f cs) ≡ plan_in number cs
plan_moved f moved number [] = refl
plan_moved f moved number (c ∷ cs) =
    λ i. cond ((moved c).number i == number) (Some ((moved c).plan i)) (plan_moved f moved number cs i)

-- a policy that has its say makes nothing present or done
raised_at : (keep : Keep) (upper : ℕ) (f : Frontier) → is_at (raised keep upper f) ≡ is_at f
raised_at keep upper Done = refl
raised_at keep upper (At old) = refl

-- a collection stays as it is
moved_none : (c : Collection) → IsMoved c c
moved_none c = record { number = refl; item = refl; plan = refl; present = λ h. h }

-- or comes on
moved_on : (upper : ℕ) (c : Collection) → IsMoved c (come_to upper c)
moved_on upper c = record { number = refl; item = refl; plan = refl; present = λ h. sym (raised_at c.keep upper c.implied) ∙ h }

-- or gets another policy
moved_keep : (keep : Keep) (c : Collection) → IsMoved c (kept_by keep c)
moved_keep keep c = record { number = refl; item = refl; plan = refl; present = λ h. sym (raised_at keep c.upper c.implied) ∙ h }

-- or is let go
moved_go : (c : Collection) → IsMoved c (let_go c)
moved_go c = record { number = refl; item = refl; plan = refl; present = λ h. absurd (false≢true h) }

-- by a test one or the other
moved_either : (b : Bool) (c one other : Collection) → IsMoved c one → IsMoved c other → IsMoved c (cond b one other)
moved_either true c one other h k = h
moved_either false c one other h k = k

-- a round advances tables
pub moved_advanced : (time : ℕ) (c : Collection) → IsMoved c (advanced time c)
moved_advanced time c = moved_either (is_table c.kind) c (come_to _ c) c (moved_on _ c) (moved_none c)

-- a packet tells how far others have come
pub moved_reported : (frontiers : List (ℕ × ℕ)) (c : Collection) → IsMoved c (reported frontiers c)
moved_reported frontiers c = moved_either (is_table c.kind) c c (come_to _ c) (moved_none c) (moved_on _ c)

-- a RETAIN gives a policy
pub moved_retained : (name : List ℕ) (keep : Keep) (c : Collection) → IsMoved c (retained name keep c)
moved_retained name keep c = moved_either (is_called name c) c (kept_by keep c) c (moved_keep keep c) (moved_none c)

-- and a DROP lets a collection go
pub moved_without : (item : ℕ) (c : Collection) → IsMoved c (without_item item c)
moved_without item c = moved_either (c.item == item) c (let_go c) c (moved_go c) (moved_none c)
