-- Collections in parts: what stands where, under which number, and what it reads.
use Rattle.std.proofs.Common.{◌≡◌, ℕ, zero, suc, ◌+◌, ◌-◌, ◌<◌, ◌≤◌, ◌==◌, false, Some, List, [], ◌∷◌, ◌++◌, length, get_or, set, slice_get, refl, sym, ap, subst, ◌∙◌, arith}
use Rattle.std.proofs.lemmas.Bool.Decides.{nat_tests}
use Rattle.std.proofs.lemmas.Bool.{or_from}
use Rattle.std.specs.List.{list_any, remove, AllByRecursion as Each}
use Rattle.mz_time.specs.declared.frontier.Frontier.{Frontier}
use Rattle.mz_counted.proofs.Each.{at_place}
use Rattle.mz_rules.specs.declared.capability.Settled.{Settled}
use Rattle.mz_rules.specs.Numbering.{Numbered}
use Rattle.mz_rules.specs.Since.{reads}
use Rattle.mz_rules.proofs.Each.{each_map, each_of, each_unmap}
use Rattle.mz_collections.specs.CollectionBook.{collections_of}
use Rattle.mz_collections.specs.Kept.{IsOlder, ReadOlderOnes}
use Rattle.mz_collections.specs.Pass.{CanSettle}

-- ---- lists in parts

pub there : {A : Type 0} (xs : List A) (x : A) (ys : List A) → slice_get (xs ++ x ∷ ys) (length xs) ≡ Some x
there [] x ys = refl
there (y ∷ xs) x ys = there xs x ys

pub set_there : {A : Type 0} (xs : List A) (x z : A) (ys : List A) → set (xs ++ x ∷ ys) (length xs) z ≡ xs ++ z ∷ ys
set_there [] x z ys = refl
set_there (y ∷ xs) x z ys = ap (λ ws. y ∷ ws) (set_there xs x z ys)

pub remove_there : {A : Type 0} (xs : List A) (x : A) (ys : List A) → remove (xs ++ x ∷ ys) (length xs) ≡ xs ++ ys
remove_there [] x ys = refl
remove_there (y ∷ xs) x ys = ap (λ ws. y ∷ ws) (remove_there xs x ys)

pub number_there : (k : ℕ) (xs : List Settled) (x : Settled) (ys : List Settled) → Numbered k (collections_of (xs ++ x ∷ ys)) → x.collection.number ≡ k + length xs
number_there k [] x ys n = omega (arith, n.0)
number_there k (y ∷ xs) x ys n = omega (arith, number_there (k + 1) xs x ys n.1)

pub numbers_below : (k : ℕ) (xs : List Settled) (x : Settled) (ys : List Settled) → Numbered k (collections_of (xs ++ x ∷ ys)) → 0 < k
    → Each (λ y. (0 < y.collection.number) × (y.collection.number < x.collection.number)) xs
numbers_below k [] x ys n h = tt
numbers_below k (y ∷ xs) x ys n h = (
  (omega (arith, n.0, h), omega (arith, n.0, number_there (k + 1) xs x ys n.1)),
  numbers_below (k + 1) xs x ys n.1 (omega arith),
)

pub numbers_from : (k : ℕ) (xs : List Settled) → Numbered k (collections_of xs) → Each (λ y. k ≤ y.collection.number) xs
numbers_from k [] n = tt
numbers_from k (y ∷ xs) n = (
  omega (arith, n.0),
  each_of (λ z. k + 1 ≤ z.collection.number) (λ z. k ≤ z.collection.number) (λ z h. omega (arith, h)) xs (numbers_from (k + 1) xs n.1),
)

pub numbers_above : (k : ℕ) (xs : List Settled) (x : Settled) (ys : List Settled) → Numbered k (collections_of (xs ++ x ∷ ys)) → Each (λ y. x.collection.number < y.collection.number) ys
numbers_above k [] x ys n = each_of (λ z. k + 1 ≤ z.collection.number) (λ z. x.collection.number < z.collection.number) (λ z h. omega (arith, h, n.0)) ys (numbers_from (k + 1) ys n.1)
numbers_above k (y ∷ xs) x ys n = numbers_above (k + 1) xs x ys n.1

pub reads_no_newer : (number bound : ℕ) (inputs : List ℕ) → Each (IsOlder bound) inputs → bound ≤ number → list_any (λ input. input == number) inputs ≡ false
reads_no_newer number bound [] p h = refl
reads_no_newer number bound (i ∷ inputs) p h =
    or_from (i == number) (list_any (λ input. input == number) inputs) (grind (arith, nat_tests, p.0.high, h)) (reads_no_newer number bound inputs p.1 h)

pub coll_both : (xs ys : List Settled) → collections_of (xs ++ ys) ≡ collections_of xs ++ collections_of ys
coll_both [] ys = refl
coll_both (x ∷ xs) ys = ap (λ cs. x.collection ∷ cs) (coll_both xs ys)

pub append_none : {A : Type 0} (xs : List A) → xs ++ [] ≡ xs
append_none [] = refl
append_none (x ∷ xs) = ap (λ ys. x ∷ ys) (append_none xs)

-- ---- what holds of collections holds whatever their sinces are

pub same_length : (xs ys : List Settled) → collections_of xs ≡ collections_of ys → length xs ≡ length ys
same_length xs ys e = sym (many xs) ∙ ap length e ∙ many ys
  where
    many : (ss : List Settled) → length (collections_of ss) ≡ length ss
    many [] = refl
    many (s ∷ ss) = ap suc (many ss)

pub older_same : (xs ys : List Settled) → collections_of xs ≡ collections_of ys → ReadOlderOnes xs → ReadOlderOnes ys
older_same xs ys e p =
    each_unmap (λ s. Each (IsOlder s.collection.number) s.collection.inputs) (λ c. Each (IsOlder c.number) c.inputs) (λ s. s.collection) (λ s q. q) ys
    (subst (Each (λ c. Each (IsOlder c.number) c.inputs)) e
    (each_map (λ s. Each (IsOlder s.collection.number) s.collection.inputs) (λ c. Each (IsOlder c.number) c.inputs) (λ s. s.collection) (λ s q. q) xs p))

-- ---- one collection

pub number_at : (k p : ℕ) (ss : List Settled) (d : Settled) → Numbered k (collections_of ss) → p < length ss → (get_or ss p d).collection.number ≡ k + p
number_at k p [] d n h = absurd (omega (arith, h))
number_at k zero (x ∷ ss) d n h = omega (arith, n.0)
number_at k (suc p) (x ∷ ss) d n h = omega (arith, number_at (k + 1) p ss d n.1 (omega (arith, h)))

-- what a collection reads is below the number of all
pub inputs_below : (number m : ℕ) (all : List Settled) (over : List Frontier) (d : Settled) → CanSettle number all over → m ≡ length over + 1
    → Each (IsOlder m) (get_or all (number - 1) d).collection.inputs
inputs_below number m all over d can e =
    let within : number - 1 < length all = omega (arith, can.low, can.high) in
    let x = get_or all (number - 1) d in
    let is : x.collection.number ≡ 1 + (number - 1) = number_at 1 (number - 1) all d can.numbered within in
    each_of (IsOlder x.collection.number) (IsOlder m) (λ i o. record { low = o.low; high = omega (arith, o.high, is, e, can.as_many, can.low, can.high) }) x.collection.inputs
    (at_place (λ s. Each (IsOlder s.collection.number) s.collection.inputs) all can.older (number - 1) d within)

pub got : {A : Type 0} (p : ℕ) (xs : List A) (y d : A) → p < length xs → get_or (set xs p y) p d ≡ y
got p [] y d h = absurd (omega (arith, h))
got zero (x ∷ xs) y d h = refl
got (suc p) (x ∷ xs) y d h = got p xs y d (omega (arith, h))

pub found_get : {A : Type 0} (p : ℕ) (xs : List A) (s d : A) → slice_get xs p ≡ Some s → get_or xs p d ≡ s
found_get p [] s d e = absurd (cc)
found_get zero (x ∷ xs) s d e = cc
found_get (suc p) (x ∷ xs) s d e = found_get p xs s d e
