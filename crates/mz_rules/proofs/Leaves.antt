-- What raises no since, and what leaves all of them as they are.
use Rattle.std.proofs.Common.{◌≡◌, ℕ, ◌+◌, ◌==◌, List, [], ◌∷◌, ◌++◌, length, refl, sym, ap, ◌∙◌, subst, arith}
use Rattle.std.specs.List.{AllByRecursion as Each}
use Rattle.std.proofs.lemmas.Bool.{cond_both, cond-true, cond-false}
use Rattle.std.proofs.lemmas.List.{append-nil}
use Rattle.mz_time.specs.declared.frontier.Frontier.{Frontier}
use Rattle.mz_time.specs.declared.frontier.Frontier.TheVariants.{At, Done}
use Rattle.mz_time.specs.Frontier.{Le, meet}
use Rattle.mz_time.proofs.FrontierLemmas.{Le-refl, Le-Done, Le-antisym}
use Rattle.mz_rules.specs.declared.capability.Collection.{Collection}
use Rattle.mz_rules.specs.declared.capability.Settled.{Settled}
use Rattle.mz_rules.specs.Capabilities.{Capability}
use Rattle.mz_rules.specs.Since.{reads, least_on, least_reader, own, settle, since_or, since_of}
use Rattle.mz_rules.specs.Numbering.{Numbered, IsNew, IsThere}
use Rattle.mz_rules.proofs.Each.{each_of, each_both, each_one}
use Rattle.mz_rules.proofs.Falls.{same_rise, sinces_rise}
use Rattle.mz_rules.proofs.FrontierLemmas.{meet_keeps}
use Rattle.mz_rules.proofs.Growing.{grows_same, grows_more}
use Rattle.mz_rules.proofs.Held.{capabilities_hold, missing_at}
use Rattle.mz_rules.proofs.Numbers.{known_place, new_place}

-- each collection of the first list stands in the second too, with a since that is no later
abbrev pub NoneLater : List Settled → List Settled → Type 0
NoneLater [] ts = Unit {0}
NoneLater (s ∷ ss) [] = ⊥
NoneLater (s ∷ ss) (t ∷ ts) = (t.collection ≡ s.collection) × Le t.since s.since × NoneLater ss ts

-- then the least of the readers is no later
readers_lower : (number : ℕ) (ss ts : List Settled) → NoneLater ss ts → Le (least_reader number ts) (least_reader number ss)
readers_lower number [] ts n = Le-Done (least_reader number ts)
readers_lower number (s ∷ ss) [] n = absurd n
readers_lower number (s ∷ ss) (t ∷ ts) n =
    let others = readers_lower number ss ts n.2 in
    let same = ap (reads number) n.0 in
    cond_both (reads number s.collection) (meet s.since (least_reader number ss)) (least_reader number ss) (Le (least_reader number (t ∷ ts)))
    (λ e. subst (λ f. Le f (meet s.since (least_reader number ss))) (sym (cond-true _ _ _ (same ∙ e)))
    (meet_keeps t.since (least_reader number ts) s.since (least_reader number ss) n.1 others))
    (λ e. subst (λ f. Le f (least_reader number ss)) (sym (cond-false _ _ _ (same ∙ e))) others)

-- and, looked up by number, no since; where there was none, nothing is later than `Done`
lower_looked : (number : ℕ) (ss ts : List Settled) → NoneLater ss ts → Le (since_of number ts) (since_or Done number ss)
lower_looked number [] ts n = Le-Done (since_of number ts)
lower_looked number (s ∷ ss) [] n = absurd n
lower_looked number (s ∷ ss) (t ∷ ts) n =
    let others = lower_looked number ss ts n.2 in
    let same = ap (λ c. c.number == number) n.0 in
    cond_both (s.collection.number == number) s.since (since_or Done number ss) (Le (since_of number (t ∷ ts)))
    (λ e. subst (λ f. Le f s.since) (sym (cond-true _ _ _ (same ∙ e))) n.1)
    (λ e. subst (λ f. Le f (since_or Done number ss)) (sym (cond-false _ _ _ (same ∙ e))) others)

-- lesser capabilities and more collections raise no since
none_later : (old new : List Capability) → ((number : ℕ) → Le (least_on number new) (least_on number old)) → (cs news : List Collection)
    → NoneLater (settle old cs) (settle new (cs ++ news))
none_later old new lower [] news = tt
none_later old new lower (c ∷ cs) news =
    let others = none_later old new lower cs news in
    let below = settle old cs in
    let then_below = settle new (cs ++ news) in (
      refl,
      meet_keeps (own new c) (least_reader c.number then_below) (own old c) (least_reader c.number below)
          (meet_keeps c.implied (least_on c.number new) c.implied (least_on c.number old) (Le-refl c.implied) (lower c.number))
          (readers_lower c.number below then_below others),
      others,
    )

-- with more capabilities the least on a collection is no later
more_lower : (kept more : List Capability) (number : ℕ) → Le (least_on number (kept ++ more)) (least_on number kept)
more_lower [] more number = Le-Done (least_on number more)
more_lower (x ∷ kept) more number =
    let others = more_lower kept more number in
    let least = least_on number kept in
    cond_both (x.collection == number) (meet (At x.time) least) least (Le (least_on number (x ∷ (kept ++ more))))
    (λ e. subst (λ f. Le f (meet (At x.time) least)) (sym (cond-true _ _ _ e))
    (meet_keeps (At x.time) (least_on number (kept ++ more)) (At x.time) least (Le-refl (At x.time)) others))
    (λ e. subst (λ f. Le f least) (sym (cond-false _ _ _ e)) others)

-- more capabilities and more collections raise no since of a collection that was there
pub more_lower_sinces : (first : ℕ) (kept more : List Capability) (cs news : List Collection) → Numbered first cs
    → (number : ℕ) → IsThere first cs number → Le (since_of number (settle (kept ++ more) (cs ++ news))) (since_of number (settle kept cs))
more_lower_sinces first kept more cs news n number there =
    subst (Le (since_of number (settle (kept ++ more) (cs ++ news)))) (known_place Done (At 0) kept first cs n number there.low there.high)
    (lower_looked number (settle kept cs) (settle (kept ++ more) (cs ++ news)) (none_later kept (kept ++ more) (more_lower kept more) cs news))

-- a capability at or after the since of its collection leaves all sinces as they are
pub capability_leaves : (first : ℕ) (kept : List Capability) (one : Capability) (cs : List Collection) → Numbered first cs
    → Le (since_of one.collection (settle kept cs)) (At one.time)
    → (number : ℕ) → IsThere first cs number → since_of number (settle (kept ++ (one ∷ [])) cs) ≡ since_of number (settle kept cs)
capability_leaves first kept one cs n above number there =
    let new = kept ++ (one ∷ []) in
    let held = each_one (λ x. Le (since_of x.collection (settle kept cs)) (At x.time)) kept one (capabilities_hold kept cs) above in
    Le-antisym (since_of number (settle new cs)) (since_of number (settle kept cs))
    (subst (λ ds. Le (since_of number (settle new ds)) (since_of number (settle kept cs))) (append-nil cs)
    (more_lower_sinces first kept (one ∷ []) cs [] n number there))
    (same_rise first kept new cs n held number)

-- where a collection is there, it doesn't matter what would stand in its place
held_later : (first time : ℕ) (kept : List Capability) (cs : List Collection) → Numbered first cs → Each (λ one. IsThere first cs one.collection) kept
    → Each (λ one. Le (since_or (At time) one.collection (settle kept cs)) (At one.time)) kept
held_later first time kept cs n placed =
    each_both (λ one. IsThere first cs one.collection) (λ one. Le (since_of one.collection (settle kept cs)) (At one.time))
    (λ one. Le (since_or (At time) one.collection (settle kept cs)) (At one.time))
    (λ one there h. subst (λ f. Le f (At one.time)) (known_place (At 0) (At time) kept first cs n one.collection there.low there.high) h)
    kept placed (capabilities_hold kept cs)

-- a collection that is made as of a time at which all that it reads is readable is new
made_new : (first : ℕ) (kept : List Capability) (c : Collection) (cs : List Collection) → Numbered first cs → c.number ≡ first + length cs
    → Le (At c.as_of) c.implied → Each (λ input. Le (since_of input (settle kept cs)) (At c.as_of)) c.inputs
    → IsNew (λ number. since_or (At c.as_of) number (settle kept cs)) c.as_of c
made_new first kept c cs n own_number stays inputs = record {
  own_as_of = refl;
  kept = stays;
  inputs_before = each_of (λ input. Le (since_of input (settle kept cs)) (At c.as_of)) (λ input. Le (since_or (At c.as_of) input (settle kept cs)) (At c.as_of))
      (λ input p. missing_at c.as_of input (settle kept cs) p) c.inputs inputs;
  own_bound = subst (Le (At c.as_of)) (sym (new_place (At c.as_of) kept first cs n c.number (omega arith))) (Le-refl (At c.as_of));
}

-- such a collection leaves all sinces as they are, too
pub creation_leaves : (first : ℕ) (kept : List Capability) (c : Collection) (cs : List Collection) → Numbered first cs
    → Each (λ one. IsThere first cs one.collection) kept → c.number ≡ first + length cs → Le (At c.as_of) c.implied
    → Each (λ input. Le (since_of input (settle kept cs)) (At c.as_of)) c.inputs
    → (number : ℕ) → IsThere first cs number → since_of number (settle kept (cs ++ (c ∷ []))) ≡ since_of number (settle kept cs)
creation_leaves first kept c cs n placed own_number stays inputs number there =
    let ds = cs ++ (c ∷ []) in
    let g : ℕ → Frontier = λ k. since_or (At c.as_of) k (settle kept cs) in
    let new = made_new first kept c cs n own_number stays inputs in
    Le-antisym (since_of number (settle kept ds)) (since_of number (settle kept cs))
    (subst (λ k. Le (since_of number (settle k ds)) (since_of number (settle kept cs))) (append-nil kept)
    (more_lower_sinces first kept [] cs (c ∷ []) n number there))
    (sinces_rise first c.as_of kept kept cs ds n (held_later first c.as_of kept cs n placed) (grows_more g c.as_of c new cs cs (grows_same g c.as_of cs)) number)
