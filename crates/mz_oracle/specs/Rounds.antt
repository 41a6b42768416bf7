-- Items that wait, and the round that took those that waited as it began.
use Rattle.std.specs.Prelude.{ℕ, refl, ◌+◌, List, [], ◌∷◌, ◌++◌, remove, Option, None, Some, Result, Ok, Err}
use Rattle.std.specs.Option.{unwrap_or}
use Rattle.std.specs.Coded.{Coded, code_by, coded×, coded_list, coded_option, coded_ℕ}
use Rattle.mz_oracle.specs.declared.fault.RoundOpen.{RoundOpen}

-- the items that are in no round, in the order in which they were queued; those of the open round in the same order; and
-- how many rounds were begun, which is the number of the last one
pub record RoundsState (A : Type 0) : Type 0 where
  pub queued : List A
  pub in_round : Option (List A)
  pub begun : ℕ

-- a state written out, as its items are
abbrev pub state_code : {A : Type 0} → Coded A → Coded (RoundsState A)
state_code {A} item_code =
    code_by (List A × (Option (List A) × ℕ)) (coded× (coded_list item_code) (coded× (coded_option (coded_list item_code)) coded_ℕ))
    (λ s. (s.queued, (s.in_round, s.begun))) (λ p. record { queued = p.0; in_round = p.1.0; begun = p.1.1 }) (λ _. refl)

-- no item, and no round yet
abbrev pub no_rounds : {A : Type 0} → RoundsState A
no_rounds = record { queued = []; in_round = None; begun = 0 }

-- the items of the open round, none where no round is open
abbrev pub round_items : {A : Type 0} → RoundsState A → List A
round_items rounds = unwrap_or rounds.in_round []

-- all items that are there: those of the open round, and behind them those that are in none
abbrev pub all_items : {A : Type 0} → RoundsState A → List A
all_items rounds = round_items rounds ++ rounds.queued

-- one item more, behind all others
abbrev pub with_item : {A : Type 0} → RoundsState A → A → RoundsState A
with_item rounds item = record rounds { queued = rounds.queued ++ item ∷ [] }

-- the number of the round that may begin, or that one is open
abbrev pub round_after : {A : Type 0} → ℕ → Option (List A) → Result ℕ RoundOpen
round_after begun None = Ok (begun + 1)
round_after begun (Some items) = Err (record { round = begun })

-- a round is open, and has taken all items that were in none
abbrev pub with_round : {A : Type 0} → RoundsState A → RoundsState A
with_round rounds = record { queued = []; in_round = Some rounds.queued; begun = rounds.begun + 1 }

-- no round is open, and its items are gone
abbrev pub without_round : {A : Type 0} → RoundsState A → RoundsState A
without_round rounds = record rounds { in_round = None }

-- the item at a place of those that are in no round is gone, counted from 0
abbrev pub without_place : {A : Type 0} → RoundsState A → ℕ → RoundsState A
without_place rounds place = record rounds { queued = remove rounds.queued place }

-- the items that were in no round are gone
abbrev pub without_queued : {A : Type 0} → RoundsState A → RoundsState A
without_queued rounds = record rounds { queued = [] }
