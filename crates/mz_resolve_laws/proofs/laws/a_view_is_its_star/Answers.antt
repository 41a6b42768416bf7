use Rattle.mz_resolve_laws.proofs.StarLaws.{star_is, star_same}
use Rattle.mz_resolve_laws.proofs.laws.a_view_is_its_star.Goals as goal

pub returns : goal.returns
returns c = record { relation = star_is; steps = star_same }
