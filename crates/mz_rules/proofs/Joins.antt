-- What the first lines of a joining replica tell of collections.
use Rattle.std.proofs.Common.{◌≡◌, ℕ, ◌+◌, ◌<◌, ◌≤◌, ◌==◌, ◌||◌, ◌&&◌, Bool, true, false, cond, max, List, [], ◌∷◌, map, refl, sym, ap, ◌∙◌, subst, inl, inr, arith}
use Rattle.std.proofs.lemmas.Bool.{false≢true, or_cases, or_left, and_parts, eqb-true, ne_eqb, cond-true, cond-false}
use Rattle.mz_time.specs.declared.frontier.Frontier.{Frontier}
use Rattle.mz_time.specs.declared.frontier.Frontier.TheVariants.{At, Done}
use Rattle.mz_time.specs.Frontier.{Le, join}
use Rattle.mz_plan.specs.declared.command.Command.{Command}
use Rattle.mz_rules.specs.declared.capability.Collection.{Collection}
use Rattle.mz_rules.specs.declared.capability.Settled.{Settled}
use Rattle.mz_rules.specs.Since.{since_of}
use Rattle.mz_rules.specs.Numbering.{Numbered}
use Rattle.mz_rules.specs.Streams.{told, is_created}
use Rattle.mz_rules.specs.Joining.{is_made_in, is_read_in, joined_before, joined}

-- one more line changes nothing of another number
pub apart_told : (names : List (ℕ × ℕ)) (number : ℕ) (c : Collection) (f : Frontier) (b : Bool) (lines : List Command) → (c.number == number) ≡ false
    → told number (cond b (joined_before names c f lines) lines) ≡ told number lines
apart_told names number c f false lines e = refl
apart_told names number c Done true lines e = refl
apart_told names number c (At t) true lines e = cond-false _ _ _ e

-- nor makes it another collection
pub apart_made : (names : List (ℕ × ℕ)) (number : ℕ) (c : Collection) (f : Frontier) (b : Bool) (lines : List Command) → (c.number == number) ≡ false
    → is_created number (cond b (joined_before names c f lines) lines) ≡ is_created number lines
apart_made names number c f false lines e = refl
apart_made names number c Done true lines e = refl
apart_made names number c (At t) true lines e = ap (λ b. b || is_created number lines) e

-- nothing is told of a number before the first
pub before_first : (names : List (ℕ × ℕ)) (cluster number k : ℕ) (ss : List Settled) → Numbered k (map (λ s. s.collection) ss) → number < k
    → told number (joined names cluster ss) ≡ At 0
before_first names cluster number k [] n h = refl
before_first names cluster number k (s ∷ ss) n h =
    apart_told names number s.collection s.since (is_made_in cluster s.collection) (joined names cluster ss)
    (ne_eqb s.collection.number number (λ e. omega (arith, n.0, e, h)))
    ∙ before_first names cluster number (k + 1) ss n.1 (omega arith)

-- what is read has a number from the first on
pub read_from : (cluster number k : ℕ) (ss : List Settled) → Numbered k (map (λ s. s.collection) ss) → is_read_in cluster ss number ≡ true → k ≤ number
read_from cluster number k [] n e = absurd (false≢true e)
read_from cluster number k (s ∷ ss) n e =
    elim (or_cases (s.collection.number == number && is_made_in cluster s.collection) (is_read_in cluster ss number) e) [
      | inl here ↦ (let same = eqb-true s.collection.number number (and_parts _ _ here).0 in omega (arith, n.0, same))
      | inr later ↦ (let from = read_from cluster number (k + 1) ss n.1 later in omega arith)
    ]

-- what the first lines tell of a collection
pub record IsTold (number : ℕ) (since : Frontier) (lines : List Command) : Type 0 where
  pub makes : is_created number lines ≡ true
  pub tells : told number lines ≡ since

-- what is made as of its since is told so, where nothing was told before
unfoldable pub first_told : (names : List (ℕ × ℕ)) (number t : ℕ) (c : Collection) (f : Frontier) (lines : List Command) → (c.number == number) ≡ true
    → Le f (At t) → told number lines ≡ At 0 → IsTold number f (joined_before names c f lines)
first_told names number t c Done lines e h none = absurd h
first_told names number t c (At u) lines e h none = record {
  makes = or_left (c.number == number) (is_created number lines) e;
  tells = cond-true _ _ _ e ∙ ap (join (At u)) none ∙ (let same : max u 0 ≡ u = omega arith in ap At same);
}

-- a collection that the cluster makes, and that isn't done, is made as of its since
unfoldable pub told_since : (names : List (ℕ × ℕ)) (cluster number t k : ℕ) (ss : List Settled) → Numbered k (map (λ s. s.collection) ss)
    → is_read_in cluster ss number ≡ true → Le (since_of number ss) (At t) → IsTold number (since_of number ss) (joined names cluster ss)
told_since names cluster number t k [] n e h = absurd (false≢true e)
told_since names cluster number t k (s ∷ ss) n e h =
    elim (or_cases (s.collection.number == number && is_made_in cluster s.collection) (is_read_in cluster ss number) e) [
      | inl here ↦ (
          let both = and_parts (s.collection.number == number) (is_made_in cluster s.collection) here in
          let since : since_of number (s ∷ ss) ≡ s.since = cond-true _ _ _ both.0 in
          let lines : joined names cluster (s ∷ ss) ≡ joined_before names s.collection s.since (joined names cluster ss) = cond-true _ _ _ both.1 in
          let same = eqb-true s.collection.number number both.0 in
          let none = before_first names cluster number (k + 1) ss n.1 (omega (arith, n.0, same)) in
          let told_here = first_told names number t s.collection s.since (joined names cluster ss) both.0 (subst (λ f. Le f (At t)) since h) none in
          subst (λ f. IsTold number f (joined names cluster (s ∷ ss))) (sym since)
          (subst (IsTold number s.since) (sym lines) told_here)
          )
      | inr later ↦ (
          let apart : (s.collection.number == number) ≡ false =
          ne_eqb s.collection.number number (λ same. (let from = read_from cluster number (k + 1) ss n.1 later in omega (arith, n.0, same))) in
          let since : since_of number (s ∷ ss) ≡ since_of number ss = cond-false _ _ _ apart in
          let rest = told_since names cluster number t (k + 1) ss n.1 later (subst (λ f. Le f (At t)) since h) in
          record {
            makes = apart_made names number s.collection s.since (is_made_in cluster s.collection) (joined names cluster ss) apart ∙ rest.makes;
            tells = apart_told names number s.collection s.since (is_made_in cluster s.collection) (joined names cluster ss) apart ∙ rest.tells ∙ sym since;
          }
          )
    ]
