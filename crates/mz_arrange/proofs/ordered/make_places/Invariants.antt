use Rattle.std.proofs.Common.{take}
use Rattle.std.specs.BTreeMap.{get}
use Rattle.std.specs.List.{AllByRecursion as Each}
use Rattle.std.specs.Option.{IsSome}
use Rattle.mz_value.specs.Row.{row_cmp}
use Rattle.mz_arrange.specs.Kept.{SameRows}
use Rattle.mz_arrange.proofs.ordered.make_places.Given as goal

-- the rows so far have their places, and all counts are as they were
abbrev pub invariant-placing : goal.invariant-placing
invariant-placing l = record {
  same : SameRows l.rows.entries l.initial.rows.entries;
  places : Each (λ w. IsSome (get row_cmp l.rows w.0)) (take l.row-index l.more);
}
