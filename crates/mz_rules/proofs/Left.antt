-- The creations and the peeks that are left of lines.
use Rattle.std.proofs.Common.{◌≡◌, ℕ, ◌==◌, ◌||◌, Bool, true, false, cond, List, [], ◌∷◌, ◌++◌, max, refl, sym, ap, ◌∙◌, subst, arith}
use Rattle.std.proofs.lemmas.Bool.{eqb-true}
use Rattle.mz_time.specs.declared.frontier.Frontier.{Frontier}
use Rattle.mz_time.specs.declared.frontier.Frontier.TheVariants.{At, Done}
use Rattle.mz_time.specs.Frontier.{join}
use Rattle.mz_time.proofs.FrontierLemmas.{join_idem}
use Rattle.mz_plan.specs.declared.command.Command.{Command}
use Rattle.mz_plan.specs.declared.command.Command.TheVariants.{Create, Peek}
use Rattle.mz_rules.specs.Reduced.{made_before, creations_left, peeks_left}
use Rattle.mz_rules.specs.Streams.{told, created, is_created, is_retired}

-- two lists leave the creations that each leaves
pub left_append : (since : ℕ → Frontier) (xs ys : List Command) → creations_left since (xs ++ ys) ≡ creations_left since xs ++ creations_left since ys
left_append since [] ys = refl
left_append since (Create number plan t ∷ xs) ys = step (since number) (left_append since xs ys)
  where
    step : (f : Frontier) → creations_left since (xs ++ ys) ≡ creations_left since xs ++ creations_left since ys
        → made_before number plan f (creations_left since (xs ++ ys)) ≡ made_before number plan f (creations_left since xs) ++ creations_left since ys
    step Done e = e
    step (At u) e = ap (λ rest. Create number plan u ∷ rest) e
left_append since (line ∷ xs) ys = left_append since xs ys

-- and the peeks that each leaves
pub asks_append : (ended : ℕ → Bool) (xs ys : List Command) → peeks_left ended (xs ++ ys) ≡ peeks_left ended xs ++ peeks_left ended ys
asks_append ended [] ys = refl
asks_append ended (Peek peek collection t ∷ xs) ys = step (ended peek) (asks_append ended xs ys)
  where
    step : (b : Bool) → peeks_left ended (xs ++ ys) ≡ peeks_left ended xs ++ peeks_left ended ys
        → cond b (peeks_left ended (xs ++ ys)) (Peek peek collection t ∷ peeks_left ended (xs ++ ys))
        ≡ cond b (peeks_left ended xs) (Peek peek collection t ∷ peeks_left ended xs) ++ peeks_left ended ys
    step true e = e
    step false e = ap (λ rest. Peek peek collection t ∷ rest) e
asks_append ended (line ∷ xs) ys = asks_append ended xs ys

-- peeks have no creations
pub no_creations : (since : ℕ → Frontier) (ended : ℕ → Bool) (lines : List Command) → creations_left since (peeks_left ended lines) ≡ []
no_creations since ended [] = refl
no_creations since ended (Peek peek collection t ∷ lines) = step (ended peek) (no_creations since ended lines)
  where
    step : (b : Bool) → creations_left since (peeks_left ended lines) ≡ []
        → creations_left since (cond b (peeks_left ended lines) (Peek peek collection t ∷ peeks_left ended lines)) ≡ []
    step true e = e
    step false e = e
no_creations since ended (line ∷ lines) = no_creations since ended lines

-- and creations no peeks
pub no_peeks : (ended : ℕ → Bool) (since : ℕ → Frontier) (lines : List Command) → peeks_left ended (creations_left since lines) ≡ []
no_peeks ended since [] = refl
no_peeks ended since (Create number plan t ∷ lines) = step (since number) (no_peeks ended since lines)
  where
    step : (f : Frontier) → peeks_left ended (creations_left since lines) ≡ [] → peeks_left ended (made_before number plan f (creations_left since lines)) ≡ []
    step Done e = e
    step (At u) e = e
no_peeks ended since (line ∷ lines) = no_peeks ended since lines

-- no peek names a collection
pub peeks_name_none : (number : ℕ) (ended : ℕ → Bool) (lines : List Command) → told number (peeks_left ended lines) ≡ At 0
peeks_name_none number ended [] = refl
peeks_name_none number ended (Peek peek collection t ∷ lines) = step (ended peek) (peeks_name_none number ended lines)
  where
    step : (b : Bool) → told number (peeks_left ended lines) ≡ At 0
        → told number (cond b (peeks_left ended lines) (Peek peek collection t ∷ peeks_left ended lines)) ≡ At 0
    step true e = e
    step false e = e
peeks_name_none number ended (line ∷ lines) = peeks_name_none number ended lines

-- nor makes one
pub peeks_make_none : (ended : ℕ → Bool) (lines : List Command) → created (peeks_left ended lines) ≡ []
peeks_make_none ended [] = refl
peeks_make_none ended (Peek peek collection t ∷ lines) = step (ended peek) (peeks_make_none ended lines)
  where
    step : (b : Bool) → created (peeks_left ended lines) ≡ []
        → created (cond b (peeks_left ended lines) (Peek peek collection t ∷ peeks_left ended lines)) ≡ []
    step true e = e
    step false e = e
peeks_make_none ended (line ∷ lines) = peeks_make_none ended lines

-- creations end no peek
pub none_ended : (peek : ℕ) (since : ℕ → Frontier) (lines : List Command) → is_retired peek (creations_left since lines) ≡ false
none_ended peek since [] = refl
none_ended peek since (Create number plan t ∷ lines) = step (since number) (none_ended peek since lines)
  where
    step : (f : Frontier) → is_retired peek (creations_left since lines) ≡ false → is_retired peek (made_before number plan f (creations_left since lines)) ≡ false
    step Done e = e
    step (At u) e = e
none_ended peek since (line ∷ lines) = none_ended peek since lines

-- nor do peeks
pub asks_end_none : (peek : ℕ) (ended : ℕ → Bool) (lines : List Command) → is_retired peek (peeks_left ended lines) ≡ false
asks_end_none peek ended [] = refl
asks_end_none peek ended (Peek other collection t ∷ lines) = step (ended other) (asks_end_none peek ended lines)
  where
    step : (b : Bool) → is_retired peek (peeks_left ended lines) ≡ false
        → is_retired peek (cond b (peeks_left ended lines) (Peek other collection t ∷ peeks_left ended lines)) ≡ false
    step true e = e
    step false e = e
asks_end_none peek ended (line ∷ lines) = asks_end_none peek ended lines

-- what is left names of each collection that it makes what the function gives, and of all others nothing
pub left_told : (number : ℕ) (since : ℕ → Frontier) (lines : List Command)
    → told number (creations_left since lines) ≡ cond (is_created number (creations_left since lines)) (since number) (At 0)
left_told number since [] = refl
left_told number since (Create other plan t ∷ lines) = step (since other) refl (left_told number since lines)
  where
    one : (b c : Bool) (u : ℕ) (f g : Frontier) → (b ≡ true → f ≡ At u) → g ≡ cond c f (At 0) → cond b (join (At u) g) g ≡ cond (b || c) f (At 0)
    one true true u f g h e = ap (join (At u)) (e ∙ h refl) ∙ join_idem (At u) ∙ sym (h refl)
    one true false u f g h e = ap (join (At u)) e ∙ (let same : max u 0 ≡ u = omega arith in ap At same) ∙ sym (h refl)
    one false c u f g h e = e

    step : (f : Frontier) → since other ≡ f
        → told number (creations_left since lines) ≡ cond (is_created number (creations_left since lines)) (since number) (At 0)
        → told number (made_before other plan f (creations_left since lines))
        ≡ cond (is_created number (made_before other plan f (creations_left since lines))) (since number) (At 0)
    step Done e h = h
    step (At u) e h =
        one (other == number) (is_created number (creations_left since lines)) u (since number) (told number (creations_left since lines))
        (λ same. subst (λ n. since n ≡ At u) (eqb-true other number same) e) h
left_told number since (line ∷ lines) = left_told number since lines
