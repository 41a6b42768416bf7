-- The laws of sinces, over lists of collections and capabilities alone.
use Rattle.std.proofs.Common.{◌≡◌, ℕ, ◌==◌, true, List, [], ◌∷◌, sym, ap, ◌∙◌, subst, inl, inr}
use Rattle.std.specs.List.{AllByRecursion as Each, list_any}
use Rattle.std.proofs.lemmas.Bool.{false≢true, or_cases, cond_both, cond-true, cond-false, eqb-true}
use Rattle.mz_time.specs.declared.frontier.Frontier.{Frontier}
use Rattle.mz_time.specs.declared.frontier.Frontier.TheVariants.{At}
use Rattle.mz_time.specs.Frontier.{Le, meet}
use Rattle.mz_rules.specs.declared.capability.Settled.{Settled}
use Rattle.mz_rules.specs.declared.capability.Collection.{Collection}
use Rattle.mz_rules.specs.Capabilities.{Capability}
use Rattle.mz_rules.specs.Since.{reads, least_on, least_reader, own, settle, since_or}
use Rattle.mz_time.proofs.FrontierLemmas.{Le-trans, Le-Done, meet-Le_left, meet-Le_right, meet-greatest}
use Rattle.mz_rules.proofs.FrontierLemmas.{zero_least}
use Rattle.mz_rules.specs.Numbering.{IsNew, Grows}
use Rattle.mz_rules.proofs.Each.{each_of}

-- what is at or before each capability on a collection is at or before the least of them
pub least_on_above : (g : ℕ → Frontier) (number : ℕ) (kept : List Capability) → Each (λ s. Le (g s.collection) (At s.time)) kept
    → Le (g number) (least_on number kept)
least_on_above g number [] p = Le-Done (g number)
least_on_above g number (s ∷ kept) p =
    cond_both (s.collection == number) (meet (At s.time) (least_on number kept)) (least_on number kept) (Le (g number))
    (λ e. meet-greatest (g number) (At s.time) (least_on number kept)
    (subst (λ n. Le (g n) (At s.time)) (eqb-true s.collection number e) p.0) (least_on_above g number kept p.1))
    (λ e. least_on_above g number kept p.1)

-- a since is at or before its own collection's capabilities
pub since_own : (kept : List Capability) (c : Collection) (cs : List Collection)
    → Le (meet (own kept c) (least_reader c.number (settle kept cs))) (own kept c)
since_own kept c cs = meet-Le_left (own kept c) (least_reader c.number (settle kept cs))

-- and these at or before the implied one
pub own_implied : (kept : List Capability) (c : Collection) → Le (own kept c) c.implied
own_implied kept c = meet-Le_left c.implied (least_on c.number kept)

-- a settled collection after an entry, seen from the one before: it is the same, and its since didn't fall
pub record Rose (before after : Settled) : Type 0 where
  pub same_number : after.collection.number ≡ before.collection.number
  pub same_inputs : after.collection.inputs ≡ before.collection.inputs
  pub same_as_of : after.collection.as_of ≡ before.collection.as_of
  pub rises : Le before.since after.since

-- a settled collection that an entry makes as of a time
pub record IsNewest (g : ℕ → Frontier) (a : ℕ) (s : Settled) : Type 0 where
  pub own_as_of : s.collection.as_of ≡ a
  pub from_as_of : Le (At a) s.since
  pub inputs_before : Each (λ input. Le (g input) (At a)) s.collection.inputs

-- the settled collections after an entry: those before, none of whose sinces fell, and then new ones
abbrev pub NoneFalls : (ℕ → Frontier) → ℕ → List Settled → List Settled → Type 0
NoneFalls g a [] news = Each (IsNewest g a) news
NoneFalls g a (s ∷ ss) [] = ⊥
NoneFalls g a (s ∷ ss) (t ∷ ts) = Rose s t × NoneFalls g a ss ts

-- what holds of each member holds of one that a test finds
found : (P : ℕ → Type 0) (number : ℕ) (inputs : List ℕ) → Each P inputs → list_any (λ input. input == number) inputs ≡ true → P number
found P number [] p e = absurd (false≢true e)
found P number (n ∷ ns) p e = elim (or_cases (n == number) (list_any (λ input. input == number) ns) e) [
  | inl own ↦ subst P (eqb-true n number own) p.0
  | inr later ↦ found P number ns p.1 later
]

-- new readers come no earlier than what they read
new_readers : (g : ℕ → Frontier) (a number : ℕ) (f : Frontier) → Le f (g number) → (ts : List Settled)
    → Each (IsNewest g a) ts → Le f (least_reader number ts)
new_readers g a number f h [] p = Le-Done f
new_readers g a number f h (t ∷ ts) p =
    cond_both (reads number t.collection) (meet t.since (least_reader number ts)) (least_reader number ts) (Le f)
    (λ e. meet-greatest f t.since (least_reader number ts)
    (Le-trans f (g number) t.since h (Le-trans (g number) (At a) t.since
    (found (λ n. Le (g n) (At a)) number t.collection.inputs p.0.inputs_before e) p.0.from_as_of))
    (new_readers g a number f h ts p.1))
    (λ e. new_readers g a number f h ts p.1)

-- where no reader's since fell, what was at or before all of them still is
readers_above : (g : ℕ → Frontier) (a number : ℕ) (f : Frontier) → Le f (g number) → (ss ts : List Settled) → NoneFalls g a ss ts
    → Le f (least_reader number ss) → Le f (least_reader number ts)
readers_above g a number f h [] ts n p = new_readers g a number f h ts n
readers_above g a number f h (s ∷ ss) [] n p = absurd n
readers_above g a number f h (s ∷ ss) (t ∷ ts) n p =
    let same : reads number t.collection ≡ reads number s.collection = ap (list_any (λ input. input == number)) n.0.same_inputs in
    cond_both (reads number t.collection) (meet t.since (least_reader number ts)) (least_reader number ts) (Le f)
    (λ e.
    let both : Le f (meet s.since (least_reader number ss)) = subst (Le f) (cond-true _ _ _ (sym same ∙ e)) p in
    meet-greatest f t.since (least_reader number ts)
    (Le-trans f s.since t.since
    (Le-trans f (meet s.since (least_reader number ss)) s.since both (meet-Le_left s.since (least_reader number ss))) n.0.rises)
    (readers_above g a number f h ss ts n.1
    (Le-trans f (meet s.since (least_reader number ss)) (least_reader number ss) both (meet-Le_right s.since (least_reader number ss)))))
    (λ e. readers_above g a number f h ss ts n.1 (subst (Le f) (cond-false _ _ _ (sym same ∙ e)) p))

-- the sinces of new collections alone: at or after the time at which they were made
new_settled : (g : ℕ → Frontier) (a : ℕ) (kept : List Capability) → Each (λ s. Le (g s.collection) (At s.time)) kept
    → (cs : List Collection) → Each (IsNew g a) cs → Each (IsNewest g a) (settle kept cs)
new_settled g a kept above [] p = tt
new_settled g a kept above (c ∷ cs) p =
    let rest = new_settled g a kept above cs p.1 in
    let below = settle kept cs in (
      record {
        own_as_of = p.0.own_as_of;
        from_as_of = meet-greatest (At a) (own kept c) (least_reader c.number below)
            (meet-greatest (At a) c.implied (least_on c.number kept) p.0.kept
            (Le-trans (At a) (g c.number) (least_on c.number kept) p.0.own_bound (least_on_above g c.number kept above)))
            (new_readers g a c.number (At a) p.0.own_bound below rest);
        inputs_before = p.0.inputs_before;
      },
      rest,
    )

-- no since falls where each capability after is at or after what bounds the since before of its collection, no implied capability
-- falls, and new collections read nothing that is past them
pub none_falls : (g : ℕ → Frontier) (a : ℕ) (old new : List Capability) → Each (λ s. Le (g s.collection) (At s.time)) new
    → (cs ds : List Collection) → Each (λ s. Le s.since (g s.collection.number)) (settle old cs) → Grows g a cs ds
    → NoneFalls g a (settle old cs) (settle new ds)
none_falls g a old new above [] ds bound grows = new_settled g a new above ds grows
none_falls g a old new above (c ∷ cs) [] bound grows = grows
none_falls g a old new above (c ∷ cs) (d ∷ ds) bound grows =
    let rest = none_falls g a old new above cs ds bound.1 grows.1 in
    let below = settle old cs in
    let then_below = settle new ds in
    let low : Frontier = meet (own old c) (least_reader c.number below) in
    let same = grows.0.same_number in (
      record {
        same_number = same;
        same_inputs = grows.0.same_inputs;
        same_as_of = grows.0.same_as_of;
        rises = meet-greatest low (own new d) (least_reader d.number then_below)
            (meet-greatest low d.implied (least_on d.number new)
            (Le-trans low c.implied d.implied
            (Le-trans low (own old c) c.implied (since_own old c cs) (own_implied old c)) grows.0.raises)
            (subst (λ n. Le low (least_on n new)) (sym same)
            (Le-trans low (g c.number) (least_on c.number new) bound.0 (least_on_above g c.number new above))))
            (subst (λ n. Le low (least_reader n then_below)) (sym same)
            (readers_above g a c.number low bound.0 below then_below rest (meet-Le_right (own old c) (least_reader c.number below))));
      },
      rest,
    )

-- and so looked up by number
pub looked_up : (g : ℕ → Frontier) (a : ℕ) (ss ts : List Settled) → NoneFalls g a ss ts → (number : ℕ)
    → Le (since_or (At 0) number ss) (since_or (At 0) number ts)
looked_up g a [] ts n number = zero_least (since_or (At 0) number ts)
looked_up g a (s ∷ ss) [] n number = absurd n
looked_up g a (s ∷ ss) (t ∷ ts) n number =
    let later = looked_up g a ss ts n.1 number in
    let same : (t.collection.number == number) ≡ (s.collection.number == number) = ap (λ k. k == number) n.0.same_number in
    cond_both (t.collection.number == number) t.since (since_or (At 0) number ts) (Le (since_or (At 0) number (s ∷ ss)))
    (λ e. subst (λ f. Le f t.since) (sym (cond-true _ _ _ (sym same ∙ e))) n.0.rises)
    (λ e. subst (λ f. Le f (since_or (At 0) number ts)) (sym (cond-false _ _ _ (sym same ∙ e))) later)

-- each since is at or after the as-of, still
pub still_from_as_of : (g : ℕ → Frontier) (a : ℕ) (ss ts : List Settled) → NoneFalls g a ss ts → Each (λ s. Le (At s.collection.as_of) s.since) ss
    → Each (λ s. Le (At s.collection.as_of) s.since) ts
still_from_as_of g a [] ts n p =
    each_of (IsNewest g a) (λ s. Le (At s.collection.as_of) s.since)
    (λ s new. subst (λ t. Le (At t) s.since) (sym new.own_as_of) new.from_as_of) ts n
still_from_as_of g a (s ∷ ss) [] n p = absurd n
still_from_as_of g a (s ∷ ss) (t ∷ ts) n p = (
  subst (λ k. Le (At k) t.since) (sym n.0.same_as_of) (Le-trans (At s.collection.as_of) s.since t.since p.0 n.0.rises),
  still_from_as_of g a ss ts n.1 p.1,
)
