-- What is left of the lines that make collections, and of those that ask for peeks.
use Rattle.std.proofs.Common.{◌≡◌, ℕ, ◌+◌, ◌==◌, ◌&&◌, Bool, true, false, cond, List, [], ◌∷◌, map, refl, ap, ◌∙◌, arith}
use Rattle.std.proofs.lemmas.Bool.{or_left, or_right, eq-eqb, ne_eqb, cond-true, cond-false}
use Rattle.mz_time.specs.declared.frontier.Frontier.{Frontier}
use Rattle.mz_time.specs.declared.frontier.Frontier.TheVariants.{At, Done}
use Rattle.mz_plan.specs.declared.command.PendingPeek.{PendingPeek}
use Rattle.mz_plan.specs.Leaves.{renamed, new_number}
use Rattle.mz_rules.specs.declared.capability.Settled.{Settled}
use Rattle.mz_rules.specs.Since.{since_of}
use Rattle.mz_rules.specs.Numbering.{Numbered}
use Rattle.mz_rules.specs.Reduced.{made_before, creations_left, peeks_left}
use Rattle.mz_rules.specs.Streams.{told, created, is_retired}
use Rattle.mz_rules.specs.Joining.{is_made_in, is_read_in, ask, joined_before, joined}
use Rattle.mz_rules.proofs.Joins.{read_from}

-- ---- lines that ask for peeks alone

-- they make nothing
pub asks_create_none : (peeks : List PendingPeek) → created (map ask peeks) ≡ []
asks_create_none [] = refl
asks_create_none (peek ∷ peeks) = asks_create_none peeks

-- they tell of nothing
pub asks_tell_none : (number : ℕ) (peeks : List PendingPeek) → told number (map ask peeks) ≡ At 0
asks_tell_none number [] = refl
asks_tell_none number (peek ∷ peeks) = asks_tell_none number peeks

-- no creation is left of them
pub asks_leave_none : (since : ℕ → Frontier) (peeks : List PendingPeek) → creations_left since (map ask peeks) ≡ []
asks_leave_none since [] = refl
asks_leave_none since (peek ∷ peeks) = asks_leave_none since peeks

-- they end nothing
pub asks_end_none : (other : ℕ) (peeks : List PendingPeek) → is_retired other (map ask peeks) ≡ false
asks_end_none other [] = refl
asks_end_none other (peek ∷ peeks) = asks_end_none other peeks

-- all are left where none is ended
pub asks_stay : (ended : ℕ → Bool) → ((peek : ℕ) → ended peek ≡ false) → (peeks : List PendingPeek) → peeks_left ended (map ask peeks) ≡ map ask peeks
asks_stay ended none [] = refl
asks_stay ended none (peek ∷ peeks) =
    cond-false _ _ _ (none peek.peek) ∙ ap (λ rest. ask peek ∷ rest) (asks_stay ended none peeks)

-- ---- lines that make collections alone

-- they end no peek
pub joined_end_none : (names : List (ℕ × ℕ)) (cluster other : ℕ) (ss : List Settled) → is_retired other (joined names cluster ss) ≡ false
joined_end_none names cluster other [] = refl
joined_end_none names cluster other (s ∷ ss) = step (is_made_in cluster s.collection) s.since (joined_end_none names cluster other ss)
  where
    step : (b : Bool) (f : Frontier) → is_retired other (joined names cluster ss) ≡ false
        → is_retired other (cond b (joined_before names s.collection f (joined names cluster ss)) (joined names cluster ss)) ≡ false
    step false f e = e
    step true Done e = e
    step true (At u) e = e

-- no peek is left of them
pub joined_ask_none : (names : List (ℕ × ℕ)) (cluster : ℕ) (ended : ℕ → Bool) (ss : List Settled) → peeks_left ended (joined names cluster ss) ≡ []
joined_ask_none names cluster ended [] = refl
joined_ask_none names cluster ended (s ∷ ss) = step (is_made_in cluster s.collection) s.since (joined_ask_none names cluster ended ss)
  where
    step : (b : Bool) (f : Frontier) → peeks_left ended (joined names cluster ss) ≡ []
        → peeks_left ended (cond b (joined_before names s.collection f (joined names cluster ss)) (joined names cluster ss)) ≡ []
    step false f e = e
    step true Done e = e
    step true (At u) e = e

-- a function gives of each collection that is made its since
abbrev pub GivesSinces : (ℕ → Frontier) → ℕ → List Settled → Type 0
GivesSinces given cluster ss = (number t : ℕ) → is_read_in cluster ss number ≡ true → since_of number ss ≡ At t → given number ≡ At t

-- it does of all but the first
gives_rest : (given : ℕ → Frontier) (cluster k : ℕ) (s : Settled) (ss : List Settled) → Numbered k (map (λ x. x.collection) (s ∷ ss))
    → GivesSinces given cluster (s ∷ ss) → GivesSinces given cluster ss
gives_rest given cluster k s ss n gives number t read since =
    let apart : (s.collection.number == number) ≡ false =
    ne_eqb s.collection.number number (λ same. (let from = read_from cluster number (k + 1) ss n.1 read in omega (arith, n.0, same))) in
    gives number t (or_right (s.collection.number == number && is_made_in cluster s.collection) (is_read_in cluster ss number) read)
    (cond-false _ _ _ apart ∙ since)

-- then what is made stays as it is
pub joined_stay : (names : List (ℕ × ℕ)) (given : ℕ → Frontier) (cluster k : ℕ) (ss : List Settled) → Numbered k (map (λ s. s.collection) ss)
    → GivesSinces given cluster ss → creations_left given (joined names cluster ss) ≡ joined names cluster ss
joined_stay names given cluster k [] n gives = refl
joined_stay names given cluster k (s ∷ ss) n gives =
    step (is_made_in cluster s.collection) s.since refl refl (joined_stay names given cluster (k + 1) ss n.1 (gives_rest given cluster k s ss n gives))
  where
    own : is_made_in cluster s.collection ≡ true → (t : ℕ) → s.since ≡ At t → given s.collection.number ≡ At t
    own made t e =
        gives s.collection.number t
        (or_left (s.collection.number == s.collection.number && is_made_in cluster s.collection) (is_read_in cluster ss s.collection.number)
        (ap (λ b. b && is_made_in cluster s.collection) (eq-eqb s.collection.number s.collection.number refl) ∙ made))
        (cond-true _ _ _ (eq-eqb s.collection.number s.collection.number refl) ∙ e)

    step : (b : Bool) (f : Frontier) → is_made_in cluster s.collection ≡ b → s.since ≡ f
        → creations_left given (joined names cluster ss) ≡ joined names cluster ss
        → creations_left given (cond b (joined_before names s.collection f (joined names cluster ss)) (joined names cluster ss))
        ≡ cond b (joined_before names s.collection f (joined names cluster ss)) (joined names cluster ss)
    step false f made e rest = rest
    step true Done made e rest = rest
    step true (At u) made e rest = (λ i. made_before s.collection.number (renamed (new_number names) s.collection.plan) (own made u e i) (rest i))
