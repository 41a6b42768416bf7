use Rattle.mz_resolve_laws.proofs.DropLaws.{drop_keeps}
use Rattle.mz_resolve_laws.proofs.SoundLaws.{index_keeps, sound_empty, sound_in_cluster, table_keeps, view_keeps}
use Rattle.mz_resolve_laws.proofs.laws.soundness_is_kept.Goals as goal

pub returns : goal.returns
returns c = record {
  none = sound_empty;
  cluster = sound_in_cluster;
  table = table_keeps;
  view = view_keeps;
  index = index_keeps;
  drop = drop_keeps;
}
