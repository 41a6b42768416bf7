use Rattle.mz_resolve_laws.proofs.OtherClusters.{asks_same, indexes_same, query_same, query_unread, views_same}
use Rattle.mz_resolve_laws.proofs.laws.indexes_of_other_clusters_change_nothing.Goals as goal

pub returns : goal.returns
returns c = record {
  relation = query_same;
  unnamed = query_unread;
  query = asks_same;
  view = views_same;
  index = indexes_same;
}
