-- What an oracle of times knows, and which time it gives next.
use Rattle.std.specs.Prelude.{ℕ, ◌+◌, ◌-◌, ◌^◌, ◌≤◌, max, nat_le, List, [], ◌∷◌, Result, Ok, Err, if◌then◌else◌}
use Rattle.mz_oracle.specs.declared.fault.TimeSpent.{TimeSpent}

-- the time up to which may be read, and the last time that was given
pub record OracleState : Type 0 where
  pub read : ℕ
  pub last : ℕ

-- the greatest time that is ever given. The time after it is the greatest of all, so what is written at it can be read
abbrev pub greatest_given : ℕ
greatest_given = 2 ^ 63 - 2

-- the oracle that has given no time
abbrev pub opening : OracleState
opening = record { read = 0; last = 0 }

-- no time may be read that was not given, and no time was given that is too great
pub record IsOracle (oracle : OracleState) : Type 0 where
  pub read_given : oracle.read ≤ oracle.last
  pub last_within : oracle.last ≤ greatest_given

-- the time after `last` where the clock stands at `now`: what the clock says, or one more than the last where it is behind
abbrev pub next_time : ℕ → ℕ → ℕ
next_time last now = max now (last + 1)

-- the time that is given where the clock stands at `now`, or that none is left
abbrev pub given : ℕ → ℕ → Result ℕ TimeSpent
given last now =
    if nat_le (next_time last now) greatest_given then Ok (next_time last now) else Err (record { last = last; now = now })

-- the oracle that has given this time. What may be read is as before
abbrev pub with_last : OracleState → ℕ → OracleState
with_last oracle time = record oracle { last = time }

-- the oracle of which may be read up to this time
abbrev pub with_read : OracleState → ℕ → OracleState
with_read oracle time = record oracle { read = time }

-- what is given first, where something is, and what is given then
abbrev pub given_then : Result ℕ TimeSpent → ℕ → (ℕ → List ℕ) → List ℕ
given_then (Ok time) last rest = time ∷ rest time
given_then (Err spent) last rest = rest last

-- the times that are given after `last` where the clock shows these moments one after another
abbrev pub times_given : ℕ → List ℕ → List ℕ
times_given last [] = []
times_given last (now ∷ moments) = given_then (given last now) last (λ time. times_given time moments)
