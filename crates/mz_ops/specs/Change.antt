-- What an operator makes of changes of its sides, without times.
use Rattle.std.specs.Prelude.{ℕ, ◌+◌, ◌≤◌, ◌^◌, ◌++◌}
use Rattle.mz_bag.specs.Mass.{mass}
use Rattle.mz_bag.specs.Weighted.{Weighted}
use Rattle.mz_plan_laws.specs.Alike.{Alike}

-- what an operator makes of the rows of its sides
abbrev pub Meaning : Type 0
Meaning = Weighted → Weighted → Weighted

-- for which rows of its sides it stands
abbrev pub Standing : Type 1
Standing = Weighted → Weighted → Type 0

-- what a change may weigh: of the masses of both sides, and then of their changes
abbrev pub Load : Type 0
Load = ℕ → ℕ → ℕ → ℕ → ℕ

-- a change: whatever rows the operator stood for, it stands for the longer lists after it, and what it
-- makes of these counts as what it made before, with the output behind it
pub record IsChange (meaning : Meaning) (before after : Standing) (left right out : Weighted) : Type 0 where
  pub stands : (ls rs : Weighted) → before ls rs → after (ls ++ left) (rs ++ right)
  pub gives : (ls rs : Weighted) → before ls rs
      → Alike (meaning (ls ++ left) (rs ++ right)) (meaning ls rs ++ out)

-- what is made of rows hangs on their counts alone, and so does for which rows an operator stands
pub record ReadsCounts (meaning : Meaning) (stands : Standing) : Type 0 where
  pub gives : (ls rs ms ns : Weighted) → Alike ls ms → Alike rs ns
      → Alike (meaning ls rs) (meaning ms ns)
  pub keeps : (ls rs ms ns : Weighted) → Alike ls ms → Alike rs ns → stands ls rs → stands ms ns

-- a load is at least the changes together, and greater masses have no lesser load
pub record IsLoad (load : Load) : Type 0 where
  pub covers : (a b m n : ℕ) → m + n ≤ load a b m n
  pub grows : (a b m n c d k l : ℕ) → a ≤ c → b ≤ d → m ≤ k → n ≤ l → load a b m n ≤ load c d k l

-- the operator stands for some rows whose masses, with those of the changes, make a load within 2^100
pub record IsBearable (stands : Standing) (load : Load) (left right : Weighted) : Type 0 where
  pub first : Weighted
  pub second : Weighted
  pub stand : stands first second
  pub within : load (mass first) (mass second) (mass left) (mass right) ≤ 2 ^ 100

-- an output weighs no more than the load, whatever rows the operator stands for
pub record IsWithin (stands : Standing) (load : Load) (left right out : Weighted) : Type 0 where
  pub most : (first second : Weighted) → stands first second
      → mass out ≤ load (mass first) (mass second) (mass left) (mass right)
