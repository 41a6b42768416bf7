use Rattle.mz_resolve_laws.proofs.OverLaws.{drop_over, index_over, over_empty, over_in_cluster, table_over, view_over}
use Rattle.mz_resolve_laws.proofs.laws.soundness_over_plans_is_kept.Goals as goal

pub returns : goal.returns
returns c = record {
  none = over_empty;
  cluster = over_in_cluster;
  table = table_over;
  view = view_over;
  index = index_over;
  drop = drop_over;
}
