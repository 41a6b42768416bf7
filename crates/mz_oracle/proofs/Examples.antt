-- Times and rounds on small values, by computation.
use Rattle.std.proofs.Common.{◌≡◌, ℕ, ◌-◌, ◌^◌, [], ◌∷◌, None, Ok, Err, refl}
use Rattle.mz_oracle.specs.Oracle.{given, times_given}
use Rattle.mz_oracle.specs.Rounds.{RoundsState, round_after, with_item, with_round, without_place, without_round}

-- a clock that is behind gives the time after the last one
behind : given 5 3 ≡ Ok 6
behind = refl

-- a clock that is ahead gives its own
ahead : given 6 100 ≡ Ok 100
ahead = refl

-- behind the greatest time that is ever given comes none
spent : given (2 ^ 63 - 2) 3 ≡ Err (record { last = 9223372036854775806; now = 3 })
spent = refl

-- one time after another
in_a_row : times_given 5 (3 ∷ 100 ∷ 7 ∷ []) ≡ 6 ∷ 100 ∷ 101 ∷ []
in_a_row = refl

-- three items that wait
three : RoundsState ℕ
three = record { queued = 3 ∷ 1 ∷ 2 ∷ []; in_round = None; begun = 0 }

-- the one in the middle is withdrawn, a round begins, an item is queued, and the round is over
over : without_round (with_item (with_round (without_place three 1)) 4) ≡ record { queued = 4 ∷ []; in_round = None; begun = 1 }
unfolding three
over = refl

-- the open round is the first one
still_open : round_after (with_round three).begun (with_round three).in_round ≡ Err (record { round = 1 })
unfolding three
still_open = refl
