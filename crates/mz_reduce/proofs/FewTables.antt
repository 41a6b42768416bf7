-- What groups and distinct rows over few tables carry is within the bound.
use Rattle.std.proofs.Common.{ℕ, ◌*◌, ◌≤◌, ◌^◌, arith}
use Rattle.std.proofs.Math.Nat.{pow-le-pow_right}
use Rattle.mz_plan.specs.Small.{most_rows, most_tables}
use Rattle.mz_reduce.specs.Laws.{group_load, kept_load}

-- a power of what a table may have, of few tables
power_few : (tables : ℕ) → tables ≤ most_tables → most_rows ^ tables ≤ most_rows ^ most_tables
power_few tables few = pow-le-pow_right {n = most_rows} (omega arith) {i = tables} {j = most_tables} few

pub group_few : (tables left change : ℕ) → tables ≤ most_tables → left ≤ most_rows ^ tables → change ≤ 2 * most_rows ^ tables
    → group_load left 0 change 0 ≤ 2 ^ 100
group_few tables left change few h k = omega (arith, h, k, power_few tables few)

pub distinct_few : (tables left change : ℕ) → tables ≤ most_tables → left ≤ most_rows ^ tables → change ≤ 2 * most_rows ^ tables
    → kept_load left 0 change 0 ≤ 2 ^ 100
distinct_few tables left change few h k = omega (arith, h, k, power_few tables few)
