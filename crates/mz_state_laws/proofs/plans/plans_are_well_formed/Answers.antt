use Rattle.mz_resolve_laws.proofs.OverLaws.{over_in_cluster}
use Rattle.mz_resolve_laws.proofs.OverTypes.{asks_over}
use Rattle.mz_resolve_laws.proofs.StatementTypes.{asks_well}
use Rattle.mz_resolve_laws.proofs.TypesStay.{typed_in_cluster}
use Rattle.mz_state_laws.specs.Well.{scope_in}
use Rattle.mz_state_laws.proofs.plans.plans_are_well_formed.Goals as goal

pub returns : goal.returns
returns c = record {
  items = λ state well cluster query as_of.
      asks_well (scope_in state cluster) (over_in_cluster _ _ cluster well.over.sound).sound query as_of;
  types = λ types state well cluster query as_of.
      asks_over types state.plans (scope_in state cluster) (over_in_cluster _ _ cluster well.sound).sound
      (typed_in_cluster _ _ _ cluster well.typed) query as_of;
}
