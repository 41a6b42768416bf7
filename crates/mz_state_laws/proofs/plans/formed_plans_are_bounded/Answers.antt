use Rattle.mz_state_laws.proofs.LeafRows.{rows_of_types, rows_there, rows_within}
use Rattle.mz_state_laws.proofs.Evaluable.{asks_bounded_over, formed_bounded, index_bounded}
use Rattle.mz_state_laws.proofs.plans.formed_plans_are_bounded.Goals as goal

pub returns : goal.returns
returns c = record {
  plan = formed_bounded;
  query = asks_bounded_over;
  index = index_bounded;
  bags = λ types bags h. (rows_within types bags h, rows_of_types types bags h, rows_there types bags h);
}
