use Rattle.mz_reduce_tests.proofs.ToldLaws.{small_fits}
use Rattle.mz_reduce_tests.proofs.random.contents.Goals as goal

-- small diffs fit
pub contents-requires : goal.contents-requires
contents-requires g c = small_fits c.args.t c.args.updates.now c.want_small.ensures
