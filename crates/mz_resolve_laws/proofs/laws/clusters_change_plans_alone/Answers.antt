use Rattle.mz_resolution.specs.Resolution.{newest_first}
use Rattle.mz_resolve_laws.specs.Growth.{in_cluster}
use Rattle.mz_resolve_laws.proofs.NamesFollow.{query_alike}
use Rattle.mz_resolve_laws.proofs.laws.clusters_change_plans_alone.Goals as goal

pub returns : goal.returns
returns c scope cluster query = query_alike scope (in_cluster cluster scope) (newest_first scope) query
