-- What is read is held back by its readers.
use Rattle.std.proofs.Common.{◌≡◌, ℕ, ◌+◌, ◌<◌, ◌==◌, true, List, [], ◌∷◌, refl, sym, ◌∙◌, subst, arith}
use Rattle.std.specs.List.{AllByRecursion as Each, list_any}
use Rattle.std.proofs.lemmas.Bool.{cond_both, cond-true, cond-false, eqb-true, eq-eqb, ne_eqb, or_left, or_right}
use Rattle.mz_time.specs.declared.frontier.Frontier.{Frontier}
use Rattle.mz_time.specs.declared.frontier.Frontier.TheVariants.{At}
use Rattle.mz_time.specs.Frontier.{Le, meet}
use Rattle.mz_rules.specs.declared.capability.Settled.{Settled}
use Rattle.mz_rules.specs.declared.capability.Collection.{Collection}
use Rattle.mz_rules.specs.Capabilities.{Capability}
use Rattle.mz_rules.specs.Since.{reads, least_reader, own, settle, since_or}
use Rattle.mz_time.proofs.FrontierLemmas.{Le-refl, Le-trans, meet-Le_left, meet-Le_right}
use Rattle.mz_rules.proofs.FrontierLemmas.{zero_least}
use Rattle.mz_rules.proofs.Each.{each_of, each_both}
use Rattle.mz_rules.specs.Numbering.{Numbered, ReadOlder}

-- each member passes the test for it
members : (ns : List ℕ) → Each (λ n. list_any (λ k. k == n) ns ≡ true) ns
members [] = tt
members (m ∷ ns) = (
  or_left (m == m) (list_any (λ k. k == m) ns) (eq-eqb m m refl),
  each_of (λ n. list_any (λ k. k == n) ns ≡ true) (λ n. list_any (λ k. k == n) (m ∷ ns) ≡ true)
      (λ n p. or_right (m == n) (list_any (λ k. k == n) ns) p) ns (members ns),
)

-- with one more the least since of the readers is no later
shrinks : (number : ℕ) (s : Settled) (ss : List Settled) → Le (least_reader number (s ∷ ss)) (least_reader number ss)
shrinks number s ss =
    cond_both (reads number s.collection) (meet s.since (least_reader number ss)) (least_reader number ss) (λ f. Le f (least_reader number ss))
    (λ e. meet-Le_right s.since (least_reader number ss)) (λ e. Le-refl (least_reader number ss))

-- it is at or before the since of each reader
reader_least : (number : ℕ) (ss : List Settled) → Each (λ s. reads number s.collection ≡ true → Le (least_reader number ss) s.since) ss
reader_least number [] = tt
reader_least number (s ∷ ss) = (
  (λ e. subst (λ f. Le f s.since) (sym (cond-true _ _ _ e)) (meet-Le_left s.since (least_reader number ss))),
  each_of (λ x. reads number x.collection ≡ true → Le (least_reader number ss) x.since)
      (λ x. reads number x.collection ≡ true → Le (least_reader number (s ∷ ss)) x.since)
      (λ x p e. Le-trans (least_reader number (s ∷ ss)) (least_reader number ss) x.since (shrinks number s ss) (p e))
      ss (reader_least number ss),
)

-- no collection has a number before the first
before_place : (missing : Frontier) (kept : List Capability) (k : ℕ) (cs : List Collection) → Numbered k cs
    → (number : ℕ) → number < k → since_or missing number (settle kept cs) ≡ missing
before_place missing kept k [] n number h = refl
before_place missing kept k (c ∷ cs) n number h =
    cond-false _ _ _ (ne_eqb c.number number (λ e. omega (arith, n.0, e, h))) ∙ before_place missing kept (k + 1) cs n.1 number (omega arith)

-- what is read has a since at or before that of its reader
pub readers_hold : (kept : List Capability) (k : ℕ) (cs : List Collection) → Numbered k cs → ReadOlder cs
    → Each (λ s. Each (λ input. Le (since_or (At 0) input (settle kept cs)) s.since) s.collection.inputs) (settle kept cs)
readers_hold kept k [] n p = tt
readers_hold kept k (c ∷ cs) n p =
    let all = settle kept cs in
    let low : Frontier = meet (own kept c) (least_reader c.number all) in
    let none : (input : ℕ) → input < c.number → since_or (At 0) input (settle kept (c ∷ cs)) ≡ At 0 =
    λ input less. before_place (At 0) kept k (c ∷ cs) n input (omega (arith, n.0, less)) in (
      each_of (λ input. input < c.number) (λ input. Le (since_or (At 0) input (settle kept (c ∷ cs))) low)
          (λ input less. subst (λ f. Le f low) (sym (none input less)) (zero_least low)) c.inputs p.0,
      each_both (λ s. Each (λ input. Le (since_or (At 0) input all) s.since) s.collection.inputs)
          (λ s. reads c.number s.collection ≡ true → Le (least_reader c.number all) s.since)
          (λ s. Each (λ input. Le (since_or (At 0) input (settle kept (c ∷ cs))) s.since) s.collection.inputs)
          (λ s older reader. each_both (λ input. Le (since_or (At 0) input all) s.since) (λ input. reads input s.collection ≡ true)
          (λ input. Le (since_or (At 0) input (settle kept (c ∷ cs))) s.since)
          (λ input low_input is_reader. cond_both (c.number == input) low (since_or (At 0) input all) (λ f. Le f s.since)
          (λ e. Le-trans low (least_reader c.number all) s.since (meet-Le_right (own kept c) (least_reader c.number all))
          (reader (subst (λ n. reads n s.collection ≡ true) (sym (eqb-true c.number input e)) is_reader)))
          (λ e. low_input))
          s.collection.inputs older (members s.collection.inputs))
          all (readers_hold kept (k + 1) cs n.1 p.1) (reader_least c.number all),
    )
