-- Once its allowances are there, a stream tells the since of each collection that it makes.
use Rattle.std.proofs.Common.{◌≡◌, ℕ, ◌==◌, ◌||◌, Bool, true, false, cond, List, [], ◌∷◌, ◌++◌, reverse, refl, sym, ap, ◌∙◌, inl, inr}
use Rattle.std.specs.List.{list_any}
use Rattle.std.proofs.lemmas.Bool.{false≢true, cases_Bool, eqb-true, cond-true, cond-false}
use Rattle.std.proofs.lemmas.List.Sorted.{IsPermutation-reverse, list_any-IsPermutation}
use Rattle.mz_time.specs.declared.frontier.Frontier.{Frontier}
use Rattle.mz_time.specs.declared.frontier.Frontier.TheVariants.{At}
use Rattle.mz_time.specs.Frontier.{Le, join}
use Rattle.mz_time.proofs.FrontierLemmas.{join_comm, join_idem, join-Le, Le-antisym}
use Rattle.mz_plan.specs.declared.command.Command.{Command}
use Rattle.mz_plan.specs.declared.command.Command.TheVariants.{Allow}
use Rattle.mz_rules.specs.declared.capability.Settled.{Settled}
use Rattle.mz_rules.specs.Frontiers.{is_le}
use Rattle.mz_rules.specs.Since.{since_of}
use Rattle.mz_rules.specs.Streams.{told, created, is_created}
use Rattle.mz_rules.specs.Joining.{allowances_of, allowances}
use Rattle.mz_rules.proofs.FrontierLemmas.{is_le_Le}
use Rattle.mz_rules.proofs.Told.{told_append, join_zero}

-- where the since is past what the lines tell, the allowances of some collections tell it if the collection is one of them
past_told : (ss : List Settled) (lines : List Command) (number : ℕ) (numbers : List ℕ) → is_le (since_of number ss) (told number lines) ≡ false
    → told number (allowances_of ss lines numbers) ≡ cond (list_any (λ other. other == number) numbers) (since_of number ss) (At 0)
past_told ss lines number [] past = refl
past_told ss lines number (other ∷ numbers) past =
    step (is_le (since_of other ss) (told other lines)) (other == number) refl
    (λ same. (λ i. is_le (since_of (eqb-true other number same i) ss) (told (eqb-true other number same i) lines)) ∙ past)
    (λ same. ap (λ n. since_of n ss) (eqb-true other number same)) (past_told ss lines number numbers past)
  where
    both : (b : Bool) (f : Frontier) → join f (cond b f (At 0)) ≡ f
    both true f = join_idem f
    both false f = join_comm f (At 0) ∙ join_zero f

    step : (b c : Bool) → (other == number) ≡ c → (c ≡ true → b ≡ false) → (c ≡ true → since_of other ss ≡ since_of number ss)
        → told number (allowances_of ss lines numbers) ≡ cond (list_any (λ x. x == number) numbers) (since_of number ss) (At 0)
        → told number (cond b (allowances_of ss lines numbers) (Allow other (since_of other ss) ∷ allowances_of ss lines numbers))
        ≡ cond (c || list_any (λ x. x == number) numbers) (since_of number ss) (At 0)
    step true true e late same rest = absurd (false≢true (sym (late refl)))
    step true false e late same rest = rest
    step false true e late same rest =
        cond-true _ _ _ e ∙ (λ i. join (same refl i) (rest i)) ∙ both (list_any (λ x. x == number) numbers) (since_of number ss)
    step false false e late same rest = cond-false _ _ _ e ∙ rest

-- else they tell nothing
not_past : (ss : List Settled) (lines : List Command) (number : ℕ) (numbers : List ℕ) → is_le (since_of number ss) (told number lines) ≡ true
    → told number (allowances_of ss lines numbers) ≡ At 0
not_past ss lines number [] e = refl
not_past ss lines number (other ∷ numbers) e =
    step (is_le (since_of other ss) (told other lines)) (other == number) refl
    (λ same. (λ i. is_le (since_of (eqb-true other number same i) ss) (told (eqb-true other number same i) lines)) ∙ e)
    (not_past ss lines number numbers e)
  where
    step : (b c : Bool) → (other == number) ≡ c → (c ≡ true → b ≡ true) → told number (allowances_of ss lines numbers) ≡ At 0
        → told number (cond b (allowances_of ss lines numbers) (Allow other (since_of other ss) ∷ allowances_of ss lines numbers)) ≡ At 0
    step true c same past rest = rest
    step false true same past rest = absurd (false≢true (past refl))
    step false false same past rest = cond-false _ _ _ same ∙ rest

-- a stream that is fed tells of each collection that it makes its since, where it told no more before
pub fed_told : (ss : List Settled) (lines : List Command) (number : ℕ) → is_created number lines ≡ true → Le (told number lines) (since_of number ss)
    → told number (lines ++ allowances ss lines) ≡ since_of number ss
fed_told ss lines number made h =
    told_append number lines (allowances ss lines) ∙ (elim (cases_Bool (is_le (since_of number ss) (told number lines))) [
      | inl e ↦ (ap (join (told number lines)) (not_past ss lines number (reverse (created lines)) e) ∙ join_comm (told number lines) (At 0)
          ∙ join_zero (told number lines) ∙ Le-antisym (told number lines) (since_of number ss) h (is_le_Le (since_of number ss) (told number lines) e))
      | inr e ↦ (ap (join (told number lines)) (past_told ss lines number (reverse (created lines)) e
          ∙ cond-true _ _ _ (sym (list_any-IsPermutation (λ other. other == number) (created lines) (reverse (created lines))
          (IsPermutation-reverse (created lines))) ∙ made))
          ∙ join-Le (told number lines) (since_of number ss) h)
    ])
