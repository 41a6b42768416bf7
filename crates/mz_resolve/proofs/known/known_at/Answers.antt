use Rattle.std.proofs.Common.{subst}
use Rattle.std.specs.Option.{IfSome}
use Rattle.mz_select.specs.Gives.{Is}
use Rattle.mz_resolve.proofs.known.known_at.Goals as goal

-- what is kept is copied
pub returns : goal.returns
returns c = subst (λ found. IfSome found (λ kept. Is c.copied.result kept)) c.in-Some.ensures.value c.copied.ensures
