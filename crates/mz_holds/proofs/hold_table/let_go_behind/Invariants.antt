use Rattle.std.proofs.Common.{◌≡◌, ◌≤◌, length, take}
use Rattle.mz_holds.specs.Kept.{AreCounted}
use Rattle.mz_holds.proofs.hold_table.let_go_behind.Given as goal

abbrev pub invariant-behind : goal.invariant-behind
invariant-behind l = record {
  mark : l.mark ≤ length l.live.items;
  same : take l.mark l.live.items ≡ take l.mark l.initial.live.items;
  counted : AreCounted l.live.items l.counted.items;
}

abbrev pub decreases-behind : goal.decreases-behind
decreases-behind l = length l.live.items
