-- Collections are numbered in order of creation, so each is found under its number.
use Rattle.std.proofs.Common.{zero, suc, drop, ◌≡◌, ℕ, ◌+◌, ◌<◌, ◌≤◌, ◌==◌, Bool, true, false, cond, List, [], ◌∷◌, ◌++◌, length, map, refl, ◌∙◌, arith}
use Rattle.std.specs.List.{AllByRecursion as Each}
use Rattle.std.proofs.lemmas.Bool.{cond-true, cond-false, ne_eqb, eq-eqb, eqb-false}
use Rattle.mz_time.specs.declared.frontier.Frontier.{Frontier}
use Rattle.mz_time.specs.Frontier.{meet}
use Rattle.mz_rules.specs.declared.capability.Collection.{Collection}
use Rattle.mz_rules.specs.Capabilities.{Capability}
use Rattle.mz_rules.specs.Since.{own, least_on, least_reader, settle, since_or}
use Rattle.mz_rules.specs.Numbering.{Numbered}
use Rattle.mz_rules.proofs.Each.{each_of}

-- one more has the next number
pub numbered_more : (k : ℕ) (cs : List Collection) (c : Collection) → Numbered k cs → c.number ≡ k + length cs → Numbered k (cs ++ (c ∷ []))
numbered_more k [] c n e = (omega arith, tt)
numbered_more k (d ∷ cs) c n e = (n.0, numbered_more (k + 1) cs c n.1 (omega arith))

-- what keeps each number keeps them all
pub numbered_map : (f : Collection → Collection) → ((c : Collection) → (f c).number ≡ c.number) → (k : ℕ) (cs : List Collection)
    → Numbered k cs → Numbered k (map f cs)
numbered_map f same k [] n = tt
numbered_map f same k (c ∷ cs) n = (same c ∙ n.0, numbered_map f same (k + 1) cs n.1)

-- each is found under its number
pub own_place : (missing : Frontier) (kept : List Capability) (k : ℕ) (cs : List Collection) → Numbered k cs
    → Each (λ s. (k ≤ s.collection.number) × (since_or missing s.collection.number (settle kept cs) ≡ s.since)) (settle kept cs)
own_place missing kept k [] n = tt
own_place missing kept k (c ∷ cs) n = (
  (omega (arith, n.0), cond-true _ _ _ (eq-eqb c.number c.number refl)),
  each_of (λ s. (k + 1 ≤ s.collection.number) × (since_or missing s.collection.number (settle kept cs) ≡ s.since))
      (λ s. (k ≤ s.collection.number) × (since_or missing s.collection.number (settle kept (c ∷ cs)) ≡ s.since))
      (λ s p. (omega (arith, p.0), cond-false _ _ _ (ne_eqb c.number s.collection.number (λ e. omega (arith, p.0, n.0, e))) ∙ p.1))
      (settle kept cs) (own_place missing kept (k + 1) cs n.1),
)

-- a number that isn't there yet finds nothing
pub new_place : (missing : Frontier) (kept : List Capability) (k : ℕ) (cs : List Collection) → Numbered k cs → (number : ℕ)
    → k + length cs ≤ number
    → since_or missing number (settle kept cs) ≡ missing
new_place missing kept k [] n number h = refl
new_place missing kept k (c ∷ cs) n number h =
    cond-false _ _ _ (ne_eqb c.number number (λ e. omega (arith, n.0, e, h))) ∙ new_place missing kept (k + 1) cs n.1 number (omega arith)

-- either way the same, where the second choices are
pub cond_apart : {A : Type 0} (b : Bool) (x y z : A) → (b ≡ false → y ≡ z) → cond b x y ≡ cond b x z
cond_apart true x y z e = refl
cond_apart false x y z e = e refl

-- where a number is there, it doesn't matter what would stand in its place
pub known_place : (f g : Frontier) (kept : List Capability) (k : ℕ) (cs : List Collection) → Numbered k cs → (number : ℕ)
    → k ≤ number → number < k + length cs
    → since_or f number (settle kept cs) ≡ since_or g number (settle kept cs)
known_place f g kept k [] n number h i = absurd (omega arith)
known_place f g kept k (c ∷ cs) n number h i =
    let low = meet (own kept c) (least_reader c.number (settle kept cs)) in
    cond_apart (c.number == number) low (since_or f number (settle kept cs)) (since_or g number (settle kept cs))
    (λ e. known_place f g kept (k + 1) cs n.1 number (omega (arith, eqb-false c.number number e, n.0)) (omega arith))

-- the newer collections are settled by themselves
pub newer_alone : (kept : List Capability) (k : ℕ) (cs : List Collection) → drop k (settle kept cs) ≡ settle kept (drop k cs)
newer_alone kept zero cs = refl
newer_alone kept (suc k) [] = refl
newer_alone kept (suc k) (c ∷ cs) = newer_alone kept k cs

-- of the capabilities on a collection only the least counts
pub leasts_count : (kept others : List Capability) (cs : List Collection) → Each (λ c. least_on c.number kept ≡ least_on c.number others) cs
    → settle kept cs ≡ settle others cs
leasts_count kept others [] e = refl
leasts_count kept others (c ∷ cs) e =
    let rest = leasts_count kept others cs e.1 in
    (λ i. record { collection = c; since = meet (meet c.implied (e.0 i)) (least_reader c.number (rest i)) } ∷ rest i)
