use Rattle.std.proofs.Common.{◌≡◌, drop}
use Rattle.mz_plan.specs.Condition.{all_hold, any_holds}
use Rattle.mz_plan.proofs.condition.+holds.Given as goal

-- the conditions that are left decide
abbrev pub invariant-all_hold-conds : goal.invariant-all_hold-conds
invariant-all_hold-conds l = all_hold (drop l.cond-index l.conds) l.row ≡ all_hold l.conds l.row

-- and so of one or more
abbrev pub invariant-any_holds-conds : goal.invariant-any_holds-conds
invariant-any_holds-conds l = any_holds (drop l.cond-index l.conds) l.row ≡ any_holds l.conds l.row
