use Rattle.std.proofs.Common.{◌≡◌, ◌++◌, drop}
use Rattle.mz_plan.specs.Typed.{columns_at}
use Rattle.mz_eval.proofs.typing.columns_at.Given as goal

-- the columns so far, with those of the places that are left, are all
abbrev pub invariant-places : goal.invariant-places
invariant-places l = l.found.items ++ columns_at (drop l.place-index l.places) l.columns ≡ columns_at l.places l.columns
