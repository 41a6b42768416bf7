use Rattle.mz_state_laws.proofs.LeftWell.{well_still}
use Rattle.mz_state_laws.proofs.MadeWell.{bags_below}
use Rattle.mz_state_laws.proofs.TypesStay.{bag_later, well_twice}
use Rattle.mz_state_laws.proofs.well.types_stay.Goals as goal

pub returns : goal.returns
returns c = record { itself = well_still; twice = well_twice; bag = bag_later; numbers = bags_below }
