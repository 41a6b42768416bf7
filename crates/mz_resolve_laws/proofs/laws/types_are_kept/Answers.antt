use Rattle.mz_resolve_laws.proofs.TypesStay.{drop_typed, index_typed, table_typed, typed_empty, typed_in_cluster, typed_unused, view_typed}
use Rattle.mz_resolve_laws.proofs.laws.types_are_kept.Goals as goal

pub returns : goal.returns
returns c = record {
  none = typed_empty;
  cluster = typed_in_cluster;
  table = table_typed;
  view = view_typed;
  index = index_typed;
  drop = drop_typed;
  unused = typed_unused;
}
