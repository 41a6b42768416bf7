use Rattle.std.proofs.Common.{◌∙◌, sym, ap, arith, map, Some}
use Rattle.mz_plan.specs.Leaves.{new_number}
use Rattle.mz_plan.specs.Spine.{first_of, renamed_over}
use Rattle.mz_plan.specs.declared.plan.Plan.{Join, Union}
use Rattle.mz_plan.proofs.FirstRules.{steps, steps_of_join, steps_of_union}
use Rattle.mz_plan.proofs.OverRules.{IsRenamed, over_join, over_union, renamed_next}
use Rattle.mz_plan.proofs.SpineRules.{rises_fewer, rises_more, rises_taken}
use Rattle.mz_plan.proofs.+rename.Goals as goal

-- a plan of the spine has no more operators
pub plan::Plan::renamed-renamed_over-requires : goal.plan::Plan::renamed-renamed_over-requires
plan::Plan::renamed-renamed_over-requires t c = (
  omega (
    arith,
    c.decreases,
    rises_fewer (IsRenamed (new_number c.args.names.now)) c.args.self.now
        (map (λ one. one.now) c.pop.new.self.items) c.in-Some.plan.now c.up.made
        (rises_taken (λ one. one.now) first_of (IsRenamed (new_number c.args.names.now)) (Some c.args.self.now) c.up.spine.items
        c.pop.new.self.items c.in-Some.plan c.up.made c.in-Some.ensures.items c.up.invariant),
  ),
  tt,
)

-- one of those that are left is made
pub plan::Plan::renamed-up-preserved : goal.plan::Plan::renamed-up-preserved
plan::Plan::renamed-up-preserved t c =
    rises_more first_of (IsRenamed (new_number c.args.names.now)) (Some c.args.self.now) (map (λ one. one.now) c.pop.new.self.items)
    c.in-Some.plan.now c.up.made c.in_ok-made.made
    (rises_taken (λ one. one.now) first_of (IsRenamed (new_number c.args.names.now)) (Some c.args.self.now) c.up.spine.items
    c.pop.new.self.items c.in-Some.plan c.up.made c.in-Some.ensures.items c.up.invariant)
    (λ below. c.in_ok-made.ensures ∙ renamed_next (new_number c.args.names.now) c.in-Some.plan.now c.up.made below)

-- what is to the right of a join has fewer
pub plan::Plan::renamed_over-renamed_below-requires : goal.plan::Plan::renamed_over-renamed_below-requires
plan::Plan::renamed_over-renamed_below-requires t c =
    (omega (arith, c.decreases, ap steps c.in-Join.is ∙ steps_of_join c.in-Join._left c.in-Join.right c.in-Join.pairs), tt)

-- and so of a union
pub plan::Plan::renamed_over-renamed_below-requires-in-Union : goal.plan::Plan::renamed_over-renamed_below-requires-in-Union
plan::Plan::renamed_over-renamed_below-requires-in-Union t c =
    (omega (arith, c.decreases, ap steps c.in-Union.is ∙ steps_of_union c.in-Union._left c.in-Union.right), tt)

-- both sides of a join
pub plan::Plan::renamed_over-returns-in_ok-try_copy-in-Join : goal.plan::Plan::renamed_over-returns-in_ok-try_copy-in-Join
plan::Plan::renamed_over-returns-in_ok-try_copy-in-Join t c =
    (λ i. Join ((c.left.view_is ∙ c.in_ok-left-in-Join.ensures) i) (c.in_ok-right-in-Join.ensures i) (c.in_ok-try_copy-in-Join.ensures i))
    ∙ sym (over_join (new_number c.args.names.now) c.in-Join._left c.in-Join.right c.in-Join.pairs c.args.first)
    ∙ ap (λ p. renamed_over (new_number c.args.names.now) p c.args.first) (sym c.in-Join.is)

-- and of a union
pub plan::Plan::renamed_over-returns-in_ok-renamed_below-in-Union : goal.plan::Plan::renamed_over-returns-in_ok-renamed_below-in-Union
plan::Plan::renamed_over-returns-in_ok-renamed_below-in-Union t c =
    (λ i. Union (c.in_ok-left-in-Union.ensures i) (c.in_ok-renamed_below-in-Union.ensures i))
    ∙ sym (over_union (new_number c.args.names.now) c.in-Union._left c.in-Union.right c.args.first)
    ∙ ap (λ p. renamed_over (new_number c.args.names.now) p c.args.first) (sym c.in-Union.is)
