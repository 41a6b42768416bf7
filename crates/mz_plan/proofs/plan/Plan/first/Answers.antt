use Rattle.mz_plan.proofs.FirstRules.{first_at, first_of_filter, first_of_project, first_of_join, first_of_union, first_of_group, first_of_distinct}
use Rattle.mz_plan.proofs.plan.Plan.first.Goals as goal

-- below a filter
pub returns-in-Filter : goal.returns-in-Filter
returns-in-Filter c = first_at c.args.self.now _ _ _ c.in-Filter.is (first_of_filter c.in-Filter.below c.in-Filter._cond) c.get.ensures

-- below a project
pub returns-in-Project : goal.returns-in-Project
returns-in-Project c = first_at c.args.self.now _ _ _ c.in-Project.is (first_of_project c.in-Project.below c.in-Project._places) c.get-in-Project.ensures

-- below a join
pub returns-in-Join : goal.returns-in-Join
returns-in-Join c = first_at c.args.self.now _ _ _ c.in-Join.is (first_of_join c.in-Join.left c.in-Join._right c.in-Join._pairs) c.get-in-Join.ensures

-- below a union
pub returns-in-Union : goal.returns-in-Union
returns-in-Union c = first_at c.args.self.now _ _ _ c.in-Union.is (first_of_union c.in-Union.left c.in-Union._right) c.get-in-Union.ensures

-- below a group
pub returns-in-Group : goal.returns-in-Group
returns-in-Group c = first_at c.args.self.now _ _ _ c.in-Group.is (first_of_group c.in-Group.below c.in-Group._places c.in-Group._aggregates) c.get-in-Group.ensures

-- below a distinct
pub returns-in-Distinct : goal.returns-in-Distinct
returns-in-Distinct c = first_at c.args.self.now _ _ _ c.in-Distinct.is (first_of_distinct c.in-Distinct.below) c.get-in-Distinct.ensures
