-- Items by name and by number.
use Rattle.std.proofs.Common.{◌≡◌, ◌≢◌, ℕ, zero, suc, ◌<◌, ◌==◌, Bool, true, false, cond, not, List, [], ◌∷◌, ◌++◌, length, Option, None, Some, find, slice_get, remove, bytes_eq, is_some, nat_le, refl, sym, ap, subst, ◌∙◌, true≢false, arith}
use Rattle.std.proofs.lemmas.Bool.{eqb-true, eq-eqb, ne_eqb}
use Rattle.std.proofs.lemmas.List.Elements.{All-cons, All-nil, All-push}
use Rattle.std.proofs.lemmas.List.Kept.{AllPairs-cons}
use Rattle.std.proofs.lemmas.Option.{slice_get_within, get_or_from_slice_get}
use Rattle.std.proofs.lemmas.Slice.Eq.{bytes_eq-Decides}
use Rattle.std.specs.List.{All, AllPairs}
use Rattle.std.specs.Option.{option_map, IfSome, IsSome}
use Rattle.std.specs.Map.{values_of, lookup}
use Rattle.mz_plan.specs.declared.item.Item.{Item}
use Rattle.mz_catalog.specs.declared.fault.CatalogFault.TheVariants.{NameTaken, TooMany}
use Rattle.mz_plan.specs.Items.{named, numbered, others, Ascend}
use Rattle.mz_catalog.specs.CatalogState.{most_items, refusal}
use Rattle.mz_catalog.specs.Keyed.{AreKeyed}

-- the entry of a name has the item of that name
pub lookup_named : (name : List ℕ) (es : List (List ℕ × Item)) → AreKeyed es
    → lookup (bytes_eq name) es ≡ named name (values_of es)
lookup_named name [] keyed = refl
lookup_named name (e ∷ es) keyed = λ i. cond (bytes_eq name (keyed.0 i)) (Some e.1) (lookup_named name es keyed.1 i)

-- items that ascend do so behind the first
pub ascend-tail : (item : Item) (items : List Item) → Ascend (item ∷ items) → Ascend items
ascend-tail item items up = λ i j d lt within. up (suc i) (suc j) d (omega arith) (omega arith)

-- and the first is below each behind it
pub ascend-head : (item : Item) (items : List Item) → Ascend (item ∷ items) → All (λ later. item.id < later.id) items
ascend-head item items up = λ k d within. up zero (suc k) d (omega arith) (omega arith)

-- the item at a place is below no other of its number
pub below-at : (item : Item) (items : List Item) (place : ℕ) (x : Item) → Ascend (item ∷ items) → slice_get items place ≡ Some x
    → item.id < x.id
below-at item items place x up at =
    subst (λ y. item.id < y.id) (get_or_from_slice_get items place x x at) (ascend-head item items up place x (slice_get_within items place x at))

-- the item at a place is the one of its number
pub numbered-at : (id : ℕ) (items : List Item) (place : ℕ) (x : Item) → Ascend items → slice_get items place ≡ Some x
    → x.id ≡ id → numbered id items ≡ Some x
numbered-at id [] place x up at is = cc
numbered-at id (item ∷ items) zero x up at is =
    let same : item ≡ x = cc in
    let yes : item.id == id ≡ true = eq-eqb item.id id (ap (λ y. y.id) same ∙ is) in
    ap (λ b. cond b (Some item) (numbered id items)) yes ∙ at
numbered-at id (item ∷ items) (suc place) x up at is =
    let below = below-at item items place x up at in
    let apart : item.id == id ≡ false = ne_eqb item.id id (λ e. omega arith) in
    ap (λ b. cond b (Some item) (numbered id items)) apart ∙ numbered-at id items place x (ascend-tail item items up) at is

-- items above a number are all other than it
pub others-above : (id : ℕ) (items : List Item) → All (λ item. id < item.id) items → others id items ≡ items
others-above id [] above = refl
others-above id (item ∷ items) above =
    let first : id < item.id = above zero item (omega arith) in
    let apart : item.id == id ≡ false = ne_eqb item.id id (λ e. omega arith) in
    ap (λ b. cond (not b) (item ∷ others id items) (others id items)) apart
    ∙ ap (λ rest. item ∷ rest) (others-above id items (λ k d within. above (suc k) d (omega arith)))

-- the entries without the one at a place have the other items
pub others-at : (id : ℕ) (es : List (List ℕ × Item)) (place : ℕ) (x : Item) → Ascend (values_of es)
    → slice_get (values_of es) place ≡ Some x → x.id ≡ id → values_of (remove es place) ≡ others id (values_of es)
others-at id [] place x up at is = cc
others-at id (e ∷ es) zero x up at is =
    let same : e.1 ≡ x = cc in
    let here : e.1.id ≡ id = ap (λ y. y.id) same ∙ is in
    let yes : e.1.id == id ≡ true = eq-eqb e.1.id id here in
    sym (ap (λ b. cond (not b) (e.1 ∷ others id (values_of es)) (others id (values_of es))) yes
    ∙ others-above id (values_of es) (subst (λ n. All (λ later. n < later.id) (values_of es)) here (ascend-head e.1 (values_of es) up)))
others-at id (e ∷ es) (suc place) x up at is =
    let below = below-at e.1 (values_of es) place x up at in
    let apart : e.1.id == id ≡ false = ne_eqb e.1.id id (λ y. omega arith) in
    ap (λ rest. e.1 ∷ rest) (others-at id es place x (ascend-tail e.1 (values_of es) up) at is)
    ∙ sym (ap (λ b. cond (not b) (e.1 ∷ others id (values_of es)) (others id (values_of es))) apart)

-- a number that is found is the item's own
pub id-numbered : (id : ℕ) (items : List Item) (x : Item) → numbered id items ≡ Some x → x.id ≡ id
id-numbered id [] x at = cc
id-numbered id (item ∷ items) x at = by (item.id == id) refl at (id-numbered id items x)
  where
    by : (b : Bool) → item.id == id ≡ b → cond b (Some item) (numbered id items) ≡ Some x
        → (numbered id items ≡ Some x → x.id ≡ id) → x.id ≡ id
    by true is at rest = let same : item ≡ x = cc in subst (λ y. y.id ≡ id) same (eqb-true item.id id is)
    by false is at rest = rest at

-- an item that is found stands at a place
place-found : (test : Item → Bool) (items : List Item) (x : Item) → find test items ≡ Some x
    → (k : ℕ) × (slice_get items k ≡ Some x)
place-found test [] x at = cc
place-found test (item ∷ items) x at = by (test item) at (place-found test items x)
  where
    by : (b : Bool) → cond b (Some item) (find test items) ≡ Some x
        → (find test items ≡ Some x → (k : ℕ) × (slice_get items k ≡ Some x)) → (k : ℕ) × (slice_get (item ∷ items) k ≡ Some x)
    by true at rest = (zero, at)
    by false at rest = let behind = rest at in (suc behind.0, behind.1)

-- what has a name is there under its number
pub numbered-named : (name : List ℕ) (items : List Item) (x : Item) → Ascend items → named name items ≡ Some x
    → numbered x.id items ≡ Some x
numbered-named name items x up at =
    let behind = place-found (λ item. bytes_eq name item.name) items x at in
    numbered-at x.id items behind.0 x up behind.1 refl

-- so the number that a name gives is there
pub there-named : (name : List ℕ) (items : List Item) (r : Option ℕ) → Ascend items
    → r ≡ option_map (λ item. item.id) (named name items) → IfSome r (λ id. IsSome (numbered id items))
there-named name items r up is = by (named name items) refl r is
  where
    by : (o : Option Item) → named name items ≡ o → (r : Option ℕ) → r ≡ option_map (λ item. item.id) o
        → IfSome r (λ id. IsSome (numbered id items))
    by None at r is = subst (λ q. IfSome q (λ id. IsSome (numbered id items))) (sym is) tt
    by (Some x) at r is = subst (λ q. IfSome q (λ id. IsSome (numbered id items))) (sym is) (ap is_some (numbered-named name items x up at))

-- where no item has the name, each has another one
pub named-none : (name : List ℕ) (items : List Item) → named name items ≡ None → All (λ item. item.name ≢ name) items
named-none name [] none = All-nil _
named-none name (item ∷ items) none = by (bytes_eq name item.name) refl none (named-none name items)
  where
    by : (b : Bool) → bytes_eq name item.name ≡ b → cond b (Some item) (named name items) ≡ None
        → (named name items ≡ None → All (λ item. item.name ≢ name) items) → All (λ item. item.name ≢ name) (item ∷ items)
    by true is none rest = cc
    by false is none rest =
        All-cons (λ item. item.name ≢ name) item items
        (λ same. true≢false (sym ((bytes_eq-Decides name item.name).1 (sym same)) ∙ is)) (rest none)

-- pairs that hold also hold with one more behind
pub all_pairs-push : (R : Item → Item → Type 0) (items : List Item) (last : Item) → AllPairs R items
    → All (λ item. R item last) items → AllPairs R (items ++ last ∷ [])
all_pairs-push R [] last pairs all = λ i j d lt within. absurd (omega arith)
all_pairs-push R (item ∷ items) last pairs all =
    AllPairs-cons R item (items ++ last ∷ [])
    (All-push (R item) items last (λ k d within. pairs zero (suc k) d (omega arith) (omega arith)) (all zero item (omega arith)))
    (all_pairs-push R items last (λ i j d lt within. pairs (suc i) (suc j) d (omega arith) (omega arith))
    (λ k d within. all (suc k) d (omega arith)))

-- what is free where there is no refusal
pub record IsFree (items : List Item) (name : List ℕ) : Type 0 where
  pub name_free : named name items ≡ None
  pub place_free : length items < most_items

-- an item that isn't refused has a new name and a place
pub free-from_refusal : (items : List Item) (name : List ℕ) → refusal items name ≡ None → IsFree items name
free-from_refusal items name none = by (named name items) refl (nat_le most_items (length items)) refl none
  where
    by : (o : Option Item) → named name items ≡ o → (b : Bool) → nat_le most_items (length items) ≡ b
        → cond (is_some o) (Some (NameTaken name)) (cond b (Some (TooMany most_items)) None) ≡ None → IsFree items name
    by (Some x) at b is none = cc
    by None at true is none = cc
    by None at false is none = record { name_free = at; place_free = grind arith }
