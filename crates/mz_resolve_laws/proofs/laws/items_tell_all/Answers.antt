use Rattle.std.proofs.Common.{◌≡◌, ap}
use Rattle.mz_plan.specs.declared.scope.Scope.{Scope}
use Rattle.mz_resolution.specs.Resolution.{resolution}
use Rattle.mz_resolve_laws.proofs.laws.items_tell_all.Goals as goal

-- such scopes are one
same : (one other : Scope) → one.items ≡ other.items → one.cluster ≡ other.cluster → one ≡ other
same one other items cluster i = record { items = items i; cluster = cluster i }

pub returns : goal.returns
returns c one other items cluster says = ap (λ scope. resolution scope says) (same one other items cluster)
