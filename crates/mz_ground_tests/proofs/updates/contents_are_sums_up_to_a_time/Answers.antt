use Rattle.std.proofs.Common.{arith}
use Rattle.mz_bag.proofs.MassLaws.{light_fits}
use Rattle.mz_updates.specs.Contents.{contents}
use Rattle.mz_updates.proofs.LightLists.{light_contents}
use Rattle.mz_ground_tests.proofs.updates.contents_are_sums_up_to_a_time.Goals as goal

-- the contents of a light list are light
pub contents-requires : goal.contents-requires
contents-requires g c = record {
  fits = λ row. light_fits (contents c.time.result c.in_ok-updates.updates) row ((light_contents 0 c.in_ok-updates.updates c.in_ok-updates.ensures).light c.time.result (omega arith));
}

pub contents-requires-2 : goal.contents-requires-2
contents-requires-2 g c = record {
  fits = λ row. light_fits (contents c.time-2.result c.in_ok-updates.updates) row ((light_contents 0 c.in_ok-updates.updates c.in_ok-updates.ensures).light c.time-2.result (omega arith));
}
