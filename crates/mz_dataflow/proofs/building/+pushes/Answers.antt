use Rattle.std.proofs.Common.{◌∙◌, subst, ap, arith, ◌++◌}
use Rattle.mz_plan.specs.Condition.{holds}
use Rattle.mz_plan.specs.Operators.{distinct, filtered, joined, projected}
use Rattle.mz_plan.specs.Spine.{first_of}
use Rattle.mz_plan.proofs.FirstRules.{steps, steps_of_join, steps_of_union, first_of_filter, first_of_project, first_of_join, first_of_union, first_of_group, first_of_distinct}
use Rattle.mz_ops.specs.Laws.{product_load, sum_load}
use Rattle.mz_reduce.specs.Grouping.{grouped_ints}
use Rattle.mz_reduce.specs.Laws.{group_load, kept_load}
use Rattle.mz_dataflow.specs.Built.{bears_plan, meaning_of_ints, IsBuilt}
use Rattle.mz_dataflow.proofs.BuildLaws.{binary_next, leaf_next, rising_fewer, rising_more, unary_next}
use Rattle.mz_dataflow.proofs.PlanForms.{bears_of_filter, bears_of_project, bears_of_join, bears_of_union, bears_of_group, bears_of_distinct, ints_of_filter, ints_of_project, ints_of_join, ints_of_union, ints_of_group, ints_of_distinct}
use Rattle.mz_dataflow.proofs.building.+pushes.Goals as goal

-- a plan of the spine has no more operators
pub push_plan-push_rest-requires : goal.push_plan-push_rest-requires
push_plan-push_rest-requires t c = (
  omega (
    arith,
    c.decreases,
    rising_fewer (λ one. one.now) c.args.nodes.now.items c.args.plan.now c.up.spine.items c.pop.new.self.items c.in-Some.one c.up.nodes.items
        c.in-Some.ensures.items c.up.invariant,
  ),
  tt,
)

-- one of those that are left has its nodes
pub push_plan-up-preserved : goal.push_plan-up-preserved
push_plan-up-preserved t c =
    rising_more (λ one. one.now) c.args.nodes.now.items c.args.plan.now c.up.spine.items c.pop.new.self.items c.in-Some.one c.up.nodes.items
    c.push_rest.new.nodes.items c.in-Some.ensures.items c.up.invariant c.in_ok-push_rest.ensures

-- what is to the right of a join has fewer
pub push_rest-push_plan-requires : goal.push_rest-push_plan-requires
push_rest-push_plan-requires t c = (
  omega (arith, c.decreases, ap steps c.in-Join.is ∙ steps_of_join c.in-Join._left c.in-Join.right c.in-Join.pairs, ap steps c.get.ensures),
  tt,
)

-- and so of a union
pub push_rest-push_plan-requires-in-Union : goal.push_rest-push_plan-requires-in-Union
push_rest-push_plan-requires-in-Union t c = (
  omega (arith, c.decreases, ap steps c.in-Union.is ∙ steps_of_union c.in-Union._left c.in-Union.right, ap steps c.get-in-Union.ensures),
  tt,
)

-- a table
pub push_rest-returns-in_ok-push-in-Table : goal.push_rest-returns-in_ok-push-in-Table
push_rest-returns-in_ok-push-in-Table t c =
    leaf_next c.args.plan.now c.in-Table.item _ _ (ap first_of c.in-Table.is) (λ leaves. ap (meaning_of_ints leaves) c.in-Table.is)
    c.in_ok-push-in-Table.ensures.items

-- an index
pub push_rest-returns-in_ok-push-in-Index : goal.push_rest-returns-in_ok-push-in-Index
push_rest-returns-in_ok-push-in-Index t c =
    leaf_next c.args.plan.now c.in-Index.item _ _ (ap first_of c.in-Index.is) (λ leaves. ap (meaning_of_ints leaves) c.in-Index.is)
    c.in_ok-push-in-Index.ensures.items

-- a filter
pub push_rest-returns-in_ok-push-in-Filter : goal.push_rest-returns-in_ok-push-in-Filter
push_rest-returns-in_ok-push-in-Filter t c =
    unary_next (filtered (holds c.in-Filter.cond)) sum_load c.args.plan.now c.in-Filter._below _ _ _
    (ap first_of c.in-Filter.is ∙ first_of_filter c.in-Filter._below c.in-Filter.cond)
    (λ leaves. ap (meaning_of_ints leaves) c.in-Filter.is ∙ ints_of_filter leaves c.in-Filter._below c.in-Filter.cond)
    (λ before after w. bears_of_filter before after c.in-Filter._below c.in-Filter.cond (subst (bears_plan before after) c.in-Filter.is w))
    c.in_ok-node-in-Filter.ensures c.in_ok-push-in-Filter.ensures.items

-- a projection
pub push_rest-returns-in_ok-push-in-Project : goal.push_rest-returns-in_ok-push-in-Project
push_rest-returns-in_ok-push-in-Project t c =
    unary_next (projected c.in-Project.places) sum_load c.args.plan.now c.in-Project._below _ _ _
    (ap first_of c.in-Project.is ∙ first_of_project c.in-Project._below c.in-Project.places)
    (λ leaves. ap (meaning_of_ints leaves) c.in-Project.is ∙ ints_of_project leaves c.in-Project._below c.in-Project.places)
    (λ before after w. bears_of_project before after c.in-Project._below c.in-Project.places (subst (bears_plan before after) c.in-Project.is w))
    c.in_ok-node-in-Project.ensures c.in_ok-push-in-Project.ensures.items

-- a join
pub push_rest-returns-in_ok-push-in-Join : goal.push_rest-returns-in_ok-push-in-Join
push_rest-returns-in_ok-push-in-Join t c =
    binary_next (joined c.in-Join.pairs) product_load c.args.plan.now c.in-Join._left c.in-Join.right _ _ c.push_plan.new.nodes.items _
    (ap first_of c.in-Join.is ∙ first_of_join c.in-Join._left c.in-Join.right c.in-Join.pairs)
    (λ leaves. ap (meaning_of_ints leaves) c.in-Join.is ∙ ints_of_join leaves c.in-Join._left c.in-Join.right c.in-Join.pairs)
    (λ before after w. bears_of_join before after c.in-Join._left c.in-Join.right c.in-Join.pairs (subst (bears_plan before after) c.in-Join.is w))
    c.in_ok-node-in-Join.ensures
    (subst (λ p. IsBuilt p c.args.nodes.now.items c.push_plan.new.nodes.items) c.get.ensures c.in_ok-push_plan-in-Join.ensures)
    c.in_ok-push-in-Join.ensures.items

-- a union
pub push_rest-returns-in_ok-push-in-Union : goal.push_rest-returns-in_ok-push-in-Union
push_rest-returns-in_ok-push-in-Union t c =
    binary_next (λ ls rs. ls ++ rs) sum_load c.args.plan.now c.in-Union._left c.in-Union.right _ _ c.push_plan-in-Union.new.nodes.items _
    (ap first_of c.in-Union.is ∙ first_of_union c.in-Union._left c.in-Union.right)
    (λ leaves. ap (meaning_of_ints leaves) c.in-Union.is ∙ ints_of_union leaves c.in-Union._left c.in-Union.right)
    (λ before after w. bears_of_union before after c.in-Union._left c.in-Union.right (subst (bears_plan before after) c.in-Union.is w))
    c.union_node-node.ensures
    (subst (λ p. IsBuilt p c.args.nodes.now.items c.push_plan-in-Union.new.nodes.items) c.get-in-Union.ensures c.in_ok-push_plan-in-Union.ensures)
    c.in_ok-push-in-Union.ensures.items

-- groups
pub push_rest-returns-in_ok-push-in-Group : goal.push_rest-returns-in_ok-push-in-Group
push_rest-returns-in_ok-push-in-Group t c =
    unary_next (grouped_ints c.in-Group.places c.in-Group.aggregates) group_load c.args.plan.now c.in-Group._below _ _ _
    (ap first_of c.in-Group.is ∙ first_of_group c.in-Group._below c.in-Group.places c.in-Group.aggregates)
    (λ leaves. ap (meaning_of_ints leaves) c.in-Group.is ∙ ints_of_group leaves c.in-Group._below c.in-Group.places c.in-Group.aggregates)
    (λ before after w. bears_of_group before after c.in-Group._below c.in-Group.places c.in-Group.aggregates (subst (bears_plan before after) c.in-Group.is w))
    c.in_ok-node-in-Group.ensures c.in_ok-push-in-Group.ensures.items

-- distinct rows
pub push_rest-returns-in_ok-push-in-Distinct : goal.push_rest-returns-in_ok-push-in-Distinct
push_rest-returns-in_ok-push-in-Distinct t c =
    unary_next distinct kept_load c.args.plan.now c.in-Distinct._below _ _ _
    (ap first_of c.in-Distinct.is ∙ first_of_distinct c.in-Distinct._below)
    (λ leaves. ap (meaning_of_ints leaves) c.in-Distinct.is ∙ ints_of_distinct leaves c.in-Distinct._below)
    (λ before after w. bears_of_distinct before after c.in-Distinct._below (subst (bears_plan before after) c.in-Distinct.is w))
    c.distinct_node-node.ensures c.in_ok-push-in-Distinct.ensures.items
