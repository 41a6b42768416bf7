-- How the counts of faults of several calls in a row join.
use Rattle.std.proofs.Common.{ℕ, ◌≤◌, Result, Ok, Err, arith}
use Rattle.mz_io.specs.Causes.{Rose, HasCause}

-- a count that rose had risen from each earlier value
pub Rose-earlier : (first before now : ℕ) → first ≤ before → Rose before now → Rose first now
Rose-earlier first before now h rose = omega arith

-- a count that rose stays risen, since it never falls
pub Rose-later : (before now last : ℕ) → Rose before now → now ≤ last → Rose before last
Rose-later before now last rose h = omega arith

-- the cause of a call is the cause of a run that ends with it
pub HasCause-earlier : {T E : Type 0} (first before now : ℕ) (result : Result T E)
    → first ≤ before → HasCause before now result → HasCause first now result
HasCause-earlier first before now (Ok x) h cause = record { later = omega (arith, cause.later); failed = tt }
HasCause-earlier first before now (Err e) h cause = record {
  later = omega (arith, cause.later);
  failed = Rose-earlier first before now h cause.failed;
}
