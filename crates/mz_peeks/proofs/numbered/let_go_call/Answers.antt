use Rattle.std.proofs.Common.{rules}
use Rattle.std.proofs.lemmas.Fn.{filter_same}
use Rattle.mz_peeks.proofs.numbered.let_go_call.Goals as goal

-- the closure gives what the test doesn't
pub returns : goal.returns
returns c = filter_same _ _ _ (λ x b f' k. search rules) _ _ c.retain.ensures.filtered
