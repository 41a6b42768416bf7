-- Collections that are done stay at rest, as collections are made and change.
use Rattle.std.proofs.Common.{◌≡◌, ℕ, ◌+◌, ◌≤◌, ◌==◌, Bool, true, false, cond, List, [], ◌∷◌, ◌++◌, map, refl, sym, ap, subst, ◌∙◌, arith}
use Rattle.std.proofs.lemmas.Bool.Decides.{nat_tests}
use Rattle.std.proofs.lemmas.Bool.{or_from}
use Rattle.std.specs.List.{list_any, AllByRecursion as Each}
use Rattle.mz_time.specs.declared.frontier.Frontier.TheVariants.{At, Done}
use Rattle.mz_time.specs.Frontier.{Le, meet}
use Rattle.mz_rules.specs.declared.capability.Collection.{Collection}
use Rattle.mz_rules.specs.declared.capability.Settled.{Settled}
use Rattle.mz_rules.specs.Capabilities.{Capability}
use Rattle.mz_rules.specs.Frontiers.{is_at}
use Rattle.mz_rules.specs.Numbering.{Numbered}
use Rattle.mz_rules.specs.Since.{least_on, least_reader, reads, since_or}
use Rattle.mz_rules.proofs.Each.{each_of}
use Rattle.mz_collections.specs.CollectionBook.{changed, collections_of}
use Rattle.mz_collections.specs.Kept.{AreAtRest}
use Rattle.mz_collections.proofs.Settling.{at_done}
use Rattle.mz_collections.proofs.Under.{is_other, with_contents}
use Rattle.mz_collections.proofs.Resting.{own_since}

-- ---- with a collection more, whose inputs are readable

not_read : (n t : ℕ) (inputs : List ℕ) (ss : List Settled) → since_or (At 0) n ss ≡ Done → Each (λ input. Le (since_or (At 0) input ss) (At t)) inputs
    → list_any (λ input. input == n) inputs ≡ false
not_read n t [] ss d p = refl
not_read n t (i ∷ inputs) ss d p = or_from (i == n) (list_any (λ input. input == n) inputs) (by (i == n) refl) (not_read n t inputs ss d p.1)
  where
    by : (b : Bool) → (i == n) ≡ b → (i == n) ≡ false
    by true e =
        let same : i ≡ n = grind (arith, nat_tests, e) in
        absurd (subst (λ f. Le f (At t)) (ap (λ m. since_or (At 0) m ss) same ∙ d) p.0)
    by false e = e

pub none_read : (k t : ℕ) (c : Collection) (ss : List Settled) → Numbered k (collections_of ss) → Each (λ input. Le (since_or (At 0) input ss) (At t)) c.inputs
    → Each (λ s. s.since ≡ Done → reads s.collection.number c ≡ false) ss
none_read k t c ss num p =
    each_of (λ s. (k ≤ s.collection.number) × (since_or (At 0) s.collection.number ss ≡ s.since)) (λ s. s.since ≡ Done → reads s.collection.number c ≡ false)
    (λ s q d. not_read s.collection.number t c.inputs ss (q.1 ∙ d) p) ss (own_since k ss num)

reader_more : (n : ℕ) (s : Settled) (ss : List Settled) → reads n s.collection ≡ false → least_reader n (ss ++ s ∷ []) ≡ least_reader n ss
reader_more n s [] e = is_other (reads n s.collection) (meet s.since Done) Done e
reader_more n s (x ∷ ss) e = ap (λ f. cond (reads n x.collection) (meet x.since f) f) (reader_more n s ss e)

pub at_rest_more : (hs ps : List Capability) (new : Settled) (ss : List Settled) → (new.since ≡ Done → ⊥) → Each (λ s. s.since ≡ Done → reads s.collection.number new.collection ≡ false) ss
    → AreAtRest hs ps ss → AreAtRest hs ps (ss ++ new ∷ [])
at_rest_more hs ps new [] live q r = ((λ d. absurd (live d)), tt)
at_rest_more hs ps new (s ∷ ss) live q r = (
  (λ d. record {
    implied = (r.0 d).implied;
    hold = (r.0 d).hold;
    peek = (r.0 d).peek;
    reader = reader_more s.collection.number new ss (q.0 d) ∙ (r.0 d).reader;
  }),
  at_rest_more hs ps new ss live q.1 r.1,
)

-- a collection more, whose inputs are readable at its as-of
pub rest_made : (hs ps : List Capability) (all new : List Settled) (s : Settled) (t : ℕ) → Numbered 1 (collections_of all) → is_at s.since ≡ true
    → Each (λ input. Le (since_or (At 0) input all) (At t)) s.collection.inputs → new ≡ all ++ s ∷ [] → AreAtRest hs ps all → AreAtRest hs ps new
rest_made hs ps all new s t num at p e r =
    subst (AreAtRest hs ps) (sym e) (at_rest_more hs ps s all (at_done s.since at) (none_read 1 t s.collection all num p) r)

-- ---- with one changed

-- a change that keeps number and inputs, and what is kept for nobody
pub record Keeps (f : Collection → Collection) : Type 0 where
  pub number : (c : Collection) → (f c).number ≡ c.number
  pub inputs : (c : Collection) → (f c).inputs ≡ c.inputs
  pub implied : (c : Collection) → c.implied ≡ Done → (f c).implied ≡ Done

-- what a change of one leaves of each
pub record IsLike (x y : Settled) : Type 0 where
  pub since : y.since ≡ x.since
  pub number : y.collection.number ≡ x.collection.number
  pub inputs : y.collection.inputs ≡ x.collection.inputs
  pub implied : x.collection.implied ≡ Done → y.collection.implied ≡ Done

pub like : (f : Collection → Collection) → Keeps f → (n : ℕ) (x : Settled) → IsLike x (changed n f x)
like f k n x = by (x.collection.number == n)
  where
    by : (b : Bool) → IsLike x (cond b (with_contents x (f x.collection)) x)
    by true = record { since = refl; number = k.number x.collection; inputs = k.inputs x.collection; implied = k.implied x.collection }
    by false = record { since = refl; number = refl; inputs = refl; implied = λ d. d }

reader_changed : (f : Collection → Collection) → Keeps f → (n m : ℕ) (ss : List Settled) → least_reader m (map (changed n f) ss) ≡ least_reader m ss
reader_changed f k n m [] = refl
reader_changed f k n m (x ∷ ss) =
    let l = like f k n x in
    λ i. cond (list_any (λ input. input == m) (l.inputs i)) (meet (l.since i) (reader_changed f k n m ss i)) (reader_changed f k n m ss i)

pub at_rest_changed : (hs ps : List Capability) (f : Collection → Collection) → Keeps f → (n : ℕ) (ss : List Settled) → AreAtRest hs ps ss → AreAtRest hs ps (map (changed n f) ss)
at_rest_changed hs ps f k n [] r = tt
at_rest_changed hs ps f k n (x ∷ ss) r =
    let l = like f k n x in (
      (λ d. let q = r.0 (sym l.since ∙ d) in record {
        implied = l.implied q.implied;
        hold = ap (λ m. least_on m hs) l.number ∙ q.hold;
        peek = ap (λ m. least_on m ps) l.number ∙ q.peek;
        reader = ap (λ m. least_reader m (map (changed n f) ss)) l.number ∙ reader_changed f k n x.collection.number ss ∙ q.reader;
      }),
      at_rest_changed hs ps f k n ss r.1,
    )
