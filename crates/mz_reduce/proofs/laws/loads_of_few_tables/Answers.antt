use Rattle.mz_reduce.proofs.FewTables.{distinct_few, group_few}
use Rattle.mz_reduce.proofs.laws.loads_of_few_tables.Goals as goal

pub returns-clause-groups : goal.returns-clause-groups
returns-clause-groups c = group_few

pub returns-clause-distinct : goal.returns-clause-distinct
returns-clause-distinct c = distinct_few
