use Rattle.mz_plan.specs.Items.{is_index, is_table, is_view}
use Rattle.mz_resolve_laws.proofs.ScopeStatements.{asks_fits, delete_fits, dropped_fits, indexes_fits, insert_fits}
use Rattle.mz_resolve_laws.proofs.laws.plans_are_of_the_scope.Goals as goal

pub returns : goal.returns
returns c = record {
  query = asks_fits;
  index = indexes_fits;
  insert = insert_fits;
  delete = delete_fits;
  drop_table = λ scope name. dropped_fits scope is_table name;
  drop_view = λ scope name. dropped_fits scope is_view name;
  drop_index = λ scope name. dropped_fits scope is_index name;
}
