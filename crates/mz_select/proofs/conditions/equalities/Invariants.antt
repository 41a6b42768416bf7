use Rattle.std.proofs.Common.{◌≡◌, ◌+◌, drop}
use Rattle.mz_resolution.specs.Conditions.{equalities}
use Rattle.mz_select.proofs.Fronts.{with_front}
use Rattle.mz_select.proofs.conditions.equalities.Given as goal

-- the pairs so far, with those of the JOINs that are left, are all
abbrev pub invariant-joins : goal.invariant-joins
invariant-joins l = with_front l.found.items (equalities l.sight (l.before + 1) (drop l.before l.joins)) ≡ equalities l.sight 1 l.joins
