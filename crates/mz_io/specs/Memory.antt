-- What callers see of a source and a sink in memory, and which of their calls fail.
use Rattle.std.specs.Prelude.{ℕ, ◌==◌, Bool, List}
use Rattle.std.specs.List.{list_any}
use Rattle.mz_io.specs.Causes.{one_more, faults_after}

-- the calls of an end so far, and what is to become of them
pub record Attempts : Type 0 where
  -- how many were made
  pub made : ℕ
  -- the numbers of those that fail, counted from 1
  pub failing : List ℕ
  -- how many failed
  pub faults : ℕ

-- a source in memory
pub record Input : Type 0 where
  -- the bytes that are left
  pub left : List ℕ
  -- the most bytes that one call gives
  pub largest : ℕ
  pub calls : Attempts

-- a sink in memory
pub record Output : Type 0 where
  -- the bytes that were written
  pub written : List ℕ
  -- the most bytes that one call takes
  pub largest : ℕ
  pub calls : Attempts

-- no call was made, and these will fail
abbrev pub none_made : List ℕ → Attempts
none_made failing = record { made = 0; failing = failing; faults = 0 }

-- the next call is one of those that fail
abbrev pub fails_next : Attempts → Bool
fails_next calls = list_any (λ n. n == one_more calls.made) calls.failing

-- the calls after one more, which failed or did not
abbrev pub after_call : Attempts → Bool → Attempts
after_call calls failed = record {
  made = one_more calls.made;
  failing = calls.failing;
  faults = faults_after calls.faults failed;
}
