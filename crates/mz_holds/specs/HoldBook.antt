-- The book of holds, and what each call makes of it.
use Rattle.std.specs.Prelude.{ℕ, ◌+◌, ◌==◌, nat_lt, List, [], ◌∷◌, ◌++◌, not, map, filter, Option, None, Some, Result, Ok, Err, if◌then◌else◌}
use Rattle.mz_rules.specs.declared.capability.Hold.{Hold}
use Rattle.mz_holds.specs.declared.fault.BelowHold.{BelowHold}

-- live holds in order of their numbers, and how many were taken
pub record HoldBook : Type 0 where
  pub live : List Hold
  pub taken : ℕ

-- no hold was taken
abbrev pub no_holds : HoldBook
no_holds = record { live = []; taken = 0 }

-- a hold more, with the next number
abbrev pub with_hold : Option ℕ → ℕ → ℕ → HoldBook → HoldBook
with_hold owner collection time b = record {
  live = b.live ++ record { number = b.taken + 1; collection = collection; time = time; owner = owner } ∷ [];
  taken = b.taken + 1;
}

-- the hold of this number at another time
abbrev pub at_time : ℕ → ℕ → Hold → Hold
at_time number time hold = if hold.number == number then record hold { time = time } else hold

-- the hold of this number moved to another time
abbrev pub with_moved : ℕ → ℕ → HoldBook → HoldBook
with_moved number time b = record b { live = map (at_time number time) b.live }

-- without the hold of this number
abbrev pub without_hold : ℕ → HoldBook → HoldBook
without_hold number b = record b { live = filter (λ hold. not (hold.number == number)) b.live }

-- the hold of this number, where it is live
abbrev pub hold_of : ℕ → List Hold → Option Hold
hold_of number [] = None
hold_of number (hold ∷ holds) = if hold.number == number then Some hold else hold_of number holds

-- the time of a hold, 0 where there is none
abbrev pub time_of : Option Hold → ℕ
time_of None = 0
time_of (Some hold) = hold.time

-- what is said to a hold that is to be moved: it may not go back
abbrev pub moving : ℕ → ℕ → List Hold → Result (Unit {0}) BelowHold
moving number asked holds =
    if nat_lt asked (time_of (hold_of number holds)) then Err (record { at = time_of (hold_of number holds); asked = asked }) else Ok tt

-- the times of the holds on a collection
abbrev pub times_on : ℕ → List Hold → List ℕ
times_on collection [] = []
times_on collection (hold ∷ holds) =
    if hold.collection == collection then hold.time ∷ times_on collection holds else times_on collection holds
