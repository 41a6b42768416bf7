-- Why a call of the outside failed, told by the count of faults of the end that was called.
use Rattle.std.specs.Prelude.{ℕ, ◌+◌, ◌-◌, ◌^◌, ◌≤◌, min, Bool, if◌then◌else◌, Result, OnErr}

-- a number of 64 bits that goes up by one, and stays at its last value
abbrev pub one_more : ℕ → ℕ
one_more n = min (n + 1) (2 ^ 64 - 1)

-- the count after a call that failed or did not: only a failure raises it, and by one
abbrev pub faults_after : ℕ → Bool → ℕ
faults_after before failed = if failed then one_more before else before

-- a count that rose is greater now, or stands at the last value that it can have
abbrev pub Rose : ℕ → ℕ → Type 0
Rose before now = one_more before ≤ now

-- a call never lowers the count, and fails only where the count rose
pub record HasCause {T E : Type 0} (before now : ℕ) (result : Result T E) : Type 0 where
  pub later : before ≤ now
  pub failed : OnErr result (Rose before now)
