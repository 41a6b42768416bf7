use Rattle.mz_dataflow_tests.proofs.ToldLaws.{small_fits}
use Rattle.mz_dataflow_tests.proofs.told.leaf_at.Goals as goal

-- small diffs fit
pub contents-requires : goal.contents-requires
contents-requires g c = small_fits c.args.t c.loop-one.all c.want_light.ensures
