-- A since is the least of all that keeps its collection readable, and these sinces are the only ones that are.
use Rattle.std.proofs.Common.{◌≡◌, ℕ, ◌+◌, ◌<◌, ◌≤◌, ◌==◌, Bool, true, false, cond, List, [], ◌∷◌, map, filter, All, refl, sym, ap, ◌∙◌, subst, arith}
use Rattle.std.specs.List.{AllByRecursion as Each, list_any}
use Rattle.std.proofs.lemmas.Bool.{ne_eqb, cond-false, or_from}
use Rattle.mz_time.specs.declared.frontier.Frontier.{Frontier}
use Rattle.mz_time.specs.declared.frontier.Frontier.TheVariants.{At}
use Rattle.mz_time.specs.Frontier.{Le, meet, least}
use Rattle.mz_time.proofs.FrontierLemmas.{meet_assoc, least-append, least-greatest}
use Rattle.mz_rules.specs.declared.capability.Collection.{Collection}
use Rattle.mz_rules.specs.declared.capability.Settled.{Settled}
use Rattle.mz_rules.specs.Capabilities.{Capability}
use Rattle.mz_rules.specs.Since.{reads, least_on, least_reader, own, settle}
use Rattle.mz_rules.specs.Exact.{times_on, sinces_over, all_on, AreLeast}
use Rattle.mz_rules.specs.Numbering.{Numbered, ReadOlder}
use Rattle.mz_rules.proofs.Each.{each_of, each_both}

-- the least on a collection is that of the list of times
on_list : (number : ℕ) (kept : List Capability) → least_on number kept ≡ least (times_on number kept)
on_list number [] = refl
on_list number (one ∷ kept) = step (one.collection == number) (on_list number kept)
  where
    step : (b : Bool) → least_on number kept ≡ least (times_on number kept)
        → cond b (meet (At one.time) (least_on number kept)) (least_on number kept)
        ≡ least (map (λ x. At x.time) (cond b (one ∷ filter (λ x. x.collection == number) kept) (filter (λ x. x.collection == number) kept)))
    step true e = ap (meet (At one.time)) e
    step false e = e

-- the least since of the readers is that of the list of sinces
over_list : (number : ℕ) (ss : List Settled) → least_reader number ss ≡ least (sinces_over number ss)
over_list number [] = refl
over_list number (s ∷ ss) = step (reads number s.collection) (over_list number ss)
  where
    step : (b : Bool) → least_reader number ss ≡ least (sinces_over number ss)
        → cond b (meet s.since (least_reader number ss)) (least_reader number ss)
        ≡ least (map (λ x. x.since) (cond b (s ∷ filter (λ x. reads number x.collection) ss) (filter (λ x. reads number x.collection) ss)))
    step true e = ap (meet s.since) e
    step false e = e

-- so the least of all that keeps a collection readable is its own least and that of its readers
all_list : (kept : List Capability) (ss : List Settled) (c : Collection) → least (all_on kept ss c) ≡ meet (own kept c) (least_reader c.number ss)
all_list kept ss c =
    ap (meet c.implied) (least-append (times_on c.number kept) (sinces_over c.number ss)
    ∙ (λ i. meet (sym (on_list c.number kept) i) (sym (over_list c.number ss) i)))
    ∙ sym (meet_assoc c.implied (least_on c.number kept) (least_reader c.number ss))

-- what reads older ones alone reads nothing from its own number on
reads_no_newer : (number bound : ℕ) (inputs : List ℕ) → Each (λ input. input < bound) inputs → bound ≤ number
    → list_any (λ input. input == number) inputs ≡ false
reads_no_newer number bound [] older h = refl
reads_no_newer number bound (input ∷ inputs) older h =
    or_from (input == number) (list_any (λ other. other == number) inputs)
    (ne_eqb input number (λ e. omega (arith, older.0, h, e))) (reads_no_newer number bound inputs older.1 h)

-- an older collection, which reads nothing newer, is no reader of a newer one
older_apart : (kept : List Capability) (s : Settled) (ss : List Settled) (c : Collection) → reads c.number s.collection ≡ false
    → least (all_on kept (s ∷ ss) c) ≡ least (all_on kept ss c)
older_apart kept s ss c e =
    all_list kept (s ∷ ss) c ∙ ap (meet (own kept c)) (cond-false _ _ _ e) ∙ sym (all_list kept ss c)

-- numbered collections have numbers from the first one on
numbers_from : (k : ℕ) (ss : List Settled) → Numbered k (map (λ s. s.collection) ss) → Each (λ s. k ≤ s.collection.number) ss
numbers_from k [] n = tt
numbers_from k (s ∷ ss) n = (
  omega (arith, n.0),
  each_of (λ x. k + 1 ≤ x.collection.number) (λ x. k ≤ x.collection.number) (λ x h. omega arith) ss (numbers_from (k + 1) ss n.1),
)

-- the collections are those that are settled
pub settled_are : (kept : List Capability) (cs : List Collection) → map (λ s. s.collection) (settle kept cs) ≡ cs
settled_are kept [] = refl
settled_are kept (c ∷ cs) = ap (λ rest. c ∷ rest) (settled_are kept cs)

-- each since is the least of all that keeps its collection readable
pub are_least : (kept : List Capability) (k : ℕ) (cs : List Collection) → Numbered k cs → ReadOlder cs → AreLeast kept (settle kept cs)
are_least kept k [] n older = tt
are_least kept k (c ∷ cs) n older =
    let below = settle kept cs in
    let first : Settled = record { collection = c; since = meet (own kept c) (least_reader c.number below) } in
    let apart : (number : ℕ) → c.number ≤ number → reads number c ≡ false = λ number h. reads_no_newer number c.number c.inputs older.0 h in (
      sym (older_apart kept first below c (apart c.number (omega arith)) ∙ all_list kept below c),
      each_both (λ x. x.since ≡ least (all_on kept below x.collection)) (λ x. k + 1 ≤ x.collection.number)
          (λ x. x.since ≡ least (all_on kept (first ∷ below) x.collection))
          (λ x e h. e ∙ sym (older_apart kept first below x.collection (apart x.collection.number (omega (arith, n.0, h)))))
          below (are_least kept (k + 1) cs n.1 older.1)
          (numbers_from (k + 1) below (subst (Numbered (k + 1)) (sym (settled_are kept cs)) n.1)),
    )

-- sinces that are each the least of all that keeps their collection readable are those of `settle`
pub only_least : (kept : List Capability) (k : ℕ) (ss : List Settled) → Numbered k (map (λ s. s.collection) ss)
    → ReadOlder (map (λ s. s.collection) ss) → AreLeast kept ss → ss ≡ settle kept (map (λ s. s.collection) ss)
only_least kept k [] n older lowest = refl
only_least kept k (s ∷ ss) n older lowest =
    let c = s.collection in
    let apart : (number : ℕ) → c.number ≤ number → reads number c ≡ false = λ number h. reads_no_newer number c.number c.inputs older.0 h in
    let others = only_least kept (k + 1) ss n.1 older.1
    (each_both (λ x. x.since ≡ least (all_on kept (s ∷ ss) x.collection)) (λ x. k + 1 ≤ x.collection.number)
    (λ x. x.since ≡ least (all_on kept ss x.collection))
    (λ x e h. e ∙ older_apart kept s ss x.collection (apart x.collection.number (omega (arith, n.0, h))))
    ss lowest.1 (numbers_from (k + 1) ss n.1)) in
    let own_since = lowest.0 ∙ older_apart kept s ss c (apart c.number (omega arith)) ∙ all_list kept ss c
    ∙ ap (λ rest. meet (own kept c) (least_reader c.number rest)) others in
    (λ i. record { collection = c; since = own_since i } ∷ others i)

-- so a since is the greatest frontier that is at or before all of it
pub are_greatest : (kept : List Capability) (k : ℕ) (cs : List Collection) → Numbered k cs → ReadOlder cs
    → Each (λ s. (f : Frontier) → All (Le f) (all_on kept (settle kept cs) s.collection) → Le f s.since) (settle kept cs)
are_greatest kept k cs n older =
    each_of (λ s. s.since ≡ least (all_on kept (settle kept cs) s.collection))
    (λ s. (f : Frontier) → All (Le f) (all_on kept (settle kept cs) s.collection) → Le f s.since)
    (λ s e f below. subst (Le f) (sym e) (least-greatest f (all_on kept (settle kept cs) s.collection) below))
    (settle kept cs) (are_least kept k cs n older)
