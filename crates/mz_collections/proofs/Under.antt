-- Collections under their numbers, as they are found, change and grow.
use Rattle.std.proofs.Common.{◌≡◌, ℕ, zero, suc, ◌+◌, ◌<◌, ◌==◌, Bool, true, false, cond, List, [], ◌∷◌, ◌++◌, take, length, map, get_or, set, refl, sym, ap, ◌∙◌, arith}
use Rattle.std.proofs.lemmas.Bool.Decides.{nat_tests}
use Rattle.mz_time.specs.declared.frontier.Frontier.TheVariants.{At}
use Rattle.mz_rules.specs.declared.capability.Collection.{Collection}
use Rattle.mz_rules.specs.declared.capability.Settled.{Settled}
use Rattle.mz_rules.specs.Numbering.{Numbered}
use Rattle.mz_rules.specs.Since.{since_or}
use Rattle.mz_collections.specs.CollectionBook.{changed, collections_of, upper_of}

pub is_it : {A : Type 0} (b : Bool) (x y : A) → b ≡ true → cond b x y ≡ x
is_it b x y e = ap (λ c. cond c x y) e

pub is_other : {A : Type 0} (b : Bool) (x y : A) → b ≡ false → cond b x y ≡ y
is_other b x y e = ap (λ c. cond c x y) e

pub since_place : (k p n : ℕ) (ss : List Settled) (d : Settled) → Numbered k (collections_of ss) → n ≡ k + p → p < length ss
    → (get_or ss p d).since ≡ since_or (At 0) n ss
since_place k p n [] d num e h = absurd (omega (arith, h))
since_place k zero n (x ∷ ss) d num e h =
    let own : (x.collection.number == n) ≡ true = grind (arith, nat_tests, num.0, e) in
    sym (is_it (x.collection.number == n) x.since (since_or (At 0) n ss) own)
since_place k (suc p) n (x ∷ ss) d num e h =
    let other : (x.collection.number == n) ≡ false = grind (arith, nat_tests, num.0, e) in
    since_place (k + 1) p n ss d num.1 (omega (arith, e)) (omega (arith, h)) ∙ sym (is_other (x.collection.number == n) x.since (since_or (At 0) n ss) other)

pub upper_place : (k p n : ℕ) (ss : List Settled) (d : Settled) → Numbered k (collections_of ss) → n ≡ k + p → p < length ss
    → (get_or ss p d).collection.upper ≡ upper_of n ss
upper_place k p n [] d num e h = absurd (omega (arith, h))
upper_place k zero n (x ∷ ss) d num e h =
    let own : (x.collection.number == n) ≡ true = grind (arith, nat_tests, num.0, e) in
    sym (is_it (x.collection.number == n) x.collection.upper (upper_of n ss) own)
upper_place k (suc p) n (x ∷ ss) d num e h =
    let other : (x.collection.number == n) ≡ false = grind (arith, nat_tests, num.0, e) in
    upper_place (k + 1) p n ss d num.1 (omega (arith, e)) (omega (arith, h)) ∙ sym (is_other (x.collection.number == n) x.collection.upper (upper_of n ss) other)

-- a collection with other contents and the same since
abbrev pub with_contents : Settled → Collection → Settled
with_contents s c = record { collection = c; since = s.since }

none_changed : (k n : ℕ) (f : Collection → Collection) (ss : List Settled) → Numbered k (collections_of ss) → n < k → map (changed n f) ss ≡ ss
none_changed k n f [] num h = refl
none_changed k n f (x ∷ ss) num h =
    let other : (x.collection.number == n) ≡ false = grind (arith, nat_tests, num.0, h) in
    (λ i. is_other (x.collection.number == n) (with_contents x (f x.collection)) x other i ∷ none_changed (k + 1) n f ss num.1 (omega (arith, h)) i)

pub changed_place : (k p n : ℕ) (f : Collection → Collection) (ss : List Settled) (s : Settled) (c : Collection) → Numbered k (collections_of ss) → n ≡ k + p → p < length ss
    → s ≡ get_or ss p s → c ≡ f s.collection → set ss p (with_contents s c) ≡ map (changed n f) ss
changed_place k p n f [] s c num e h i q = absurd (omega (arith, h))
changed_place k zero n f (x ∷ ss) s c num e h i q =
    let own : (x.collection.number == n) ≡ true = grind (arith, nat_tests, num.0, e) in
    let new : with_contents s c ≡ with_contents x (f x.collection) = ap (with_contents s) q ∙ ap (λ y. with_contents y (f y.collection)) i in
    (λ j. (new ∙ sym (is_it (x.collection.number == n) (with_contents x (f x.collection)) x own)) j ∷ sym (none_changed (k + 1) n f ss num.1 (omega (arith, e))) j)
changed_place k (suc p) n f (x ∷ ss) s c num e h i q =
    let other : (x.collection.number == n) ≡ false = grind (arith, nat_tests, num.0, e) in
    (λ j. sym (is_other (x.collection.number == n) (with_contents x (f x.collection)) x other) j ∷ changed_place (k + 1) p n f ss s c num.1 (omega (arith, e)) (omega (arith, h)) i q j)

-- what keeps the number of each keeps their numbers
pub numbered_changed : (f : Collection → Collection) → ((c : Collection) → (f c).number ≡ c.number) → (k n : ℕ) (ss : List Settled) → Numbered k (collections_of ss)
    → Numbered k (collections_of (map (changed n f) ss))
numbered_changed f same k n [] num = tt
numbered_changed f same k n (x ∷ ss) num = (by (x.collection.number == n) ∙ num.0, numbered_changed f same (k + 1) n ss num.1)
  where
    by : (b : Bool) → (cond b (with_contents x (f x.collection)) x).collection.number ≡ x.collection.number
    by true = same x.collection
    by false = refl

pub length_changed : (f : Collection → Collection) (n : ℕ) (ss : List Settled) → length (map (changed n f) ss) ≡ length ss
length_changed f n [] = refl
length_changed f n (x ∷ ss) = ap suc (length_changed f n ss)

pub numbered_take : (k m : ℕ) (ss : List Settled) → Numbered k (collections_of ss) → Numbered k (collections_of (take m ss))
numbered_take k zero ss num = tt
numbered_take k (suc m) [] num = tt
numbered_take k (suc m) (x ∷ ss) num = (num.0, numbered_take (k + 1) m ss num.1)

pub numbered_one : (k : ℕ) (ss : List Settled) (s : Settled) → Numbered k (collections_of ss) → s.collection.number ≡ k + length ss → Numbered k (collections_of (ss ++ s ∷ []))
numbered_one k [] s num e = (omega (arith, e), tt)
numbered_one k (x ∷ ss) s num e = (num.0, numbered_one (k + 1) ss s num.1 (omega (arith, e)))
