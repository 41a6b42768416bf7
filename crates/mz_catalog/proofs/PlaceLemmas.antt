-- Where a binary search finds an item by its number.
use Rattle.std.proofs.Common.{◌≡◌, ℕ, zero, suc, ◌<◌, ◌≤◌, ◌==◌, Bool, true, false, cond, List, [], ◌∷◌, ◌⊎◌, inl, inr, length, get_or, Some, slice_get, is_some, refl, sym, ap, ◌∙◌, true≢false, arith}
use Rattle.std.proofs.lemmas.Bool.{eqb-true, cases_lt, cases_eq}
use Rattle.std.proofs.lemmas.Bool.Decides.{nat_tests}
use Rattle.std.proofs.lemmas.Cmp.{ranked}
use Rattle.std.proofs.lemmas.Option.{slice_get-get_or}
use Rattle.std.specs.List.{HoldsAt}
use Rattle.std.specs.List.Sorted.{IsNonDecreasingBy, IsPartitionPoint}
use Rattle.std.specs.Option.{IsSome}
use Rattle.std.specs.Map.{values_of}
use Rattle.std.specs.Ordering.{nat_cmp, ordering_index}
use Rattle.std.specs.declared.cmp.Ordering.TheVariants.{Less, Equal, Greater}
use Rattle.mz_plan.specs.declared.item.Item.{Item}
use Rattle.mz_plan.specs.Items.{numbered, Ascend}
use Rattle.mz_catalog.proofs.ItemLemmas.{numbered-at}

-- the value at a place is the entry's
value-at : (es : List (List ℕ × Item)) (i : ℕ) (d : List ℕ × Item) → get_or (values_of es) i d.1 ≡ (get_or es i d).1
value-at [] i d = refl
value-at (e ∷ es) zero d = refl
value-at (e ∷ es) (suc i) d = value-at es i d

-- there are as many values as entries
length-values : (es : List (List ℕ × Item)) → length (values_of es) ≡ length es
length-values [] = refl
length-values (e ∷ es) = ap suc (length-values es)

-- an item that is there stands at a place
pub place-numbered : (id : ℕ) (es : List (List ℕ × Item)) → IsSome (numbered id (values_of es))
    → (k : ℕ) × (k < length es) × ((d : List ℕ × Item) → (get_or es k d).1.id ≡ id)
place-numbered id [] there = absurd (true≢false (sym there))
place-numbered id (e ∷ es) there = by (e.1.id == id) refl there (place-numbered id es)
  where
    by : (b : Bool) → e.1.id == id ≡ b → is_some (cond b (Some e.1) (numbered id (values_of es))) ≡ true
        → (IsSome (numbered id (values_of es)) → (k : ℕ) × (k < length es) × ((d : List ℕ × Item) → (get_or es k d).1.id ≡ id))
        → (k : ℕ) × (k < length (e ∷ es)) × ((d : List ℕ × Item) → (get_or (e ∷ es) k d).1.id ≡ id)
    by true is there rest = (zero, omega arith, λ d. eqb-true e.1.id id is)
    by false is there rest = let at = rest there in (suc at.0, omega (arith, at.1), at.2)

-- where an entry compares as equal, its item is the one of the number
pub found-at : (id : ℕ) (es : List (List ℕ × Item)) (place : ℕ) → Ascend (values_of es) → place < length es
    → HoldsAt (λ e. nat_cmp e.1.id id ≡ Equal) es place → slice_get (values_of es) place ≡ numbered id (values_of es)
found-at id [] place up within at = absurd (omega arith)
found-at id (e ∷ es) place up within at =
    let all = e ∷ es in
    let there : slice_get (values_of all) place ≡ Some (get_or (values_of all) place e.1) =
    slice_get-get_or (values_of all) place e.1 (omega (arith, length-values all)) in
    let same : (get_or (values_of all) place e.1).id ≡ id =
    ap (λ x. x.id) (value-at all place e) ∙ ranked (get_or all place e).1.id id Equal (sym (at e)) in
    there ∙ sym (numbered-at id (values_of all) place _ up there same)

-- numbers rise by how they compare
higher : (a b id : ℕ) → a ≤ b → ordering_index (nat_cmp a id) ≤ ordering_index (nat_cmp b id)
higher a b id le = grind (arith, nat_tests)

-- the entries rise by how they compare
rises : (id : ℕ) (es : List (List ℕ × Item)) → Ascend (values_of es)
    → IsNonDecreasingBy (λ e. ordering_index (nat_cmp e.1.id id)) es
rises id es up i j d le within = by (cases_eq i j)
  where
    by : (i ≡ j) ⊎ (i ≡ j → ⊥) → ordering_index (nat_cmp (get_or es i d).1.id id) ≤ ordering_index (nat_cmp (get_or es j d).1.id id)
    by (inl same) = omega (arith, ap (λ k. ordering_index (nat_cmp (get_or es k d).1.id id)) same)
    by (inr apart) =
        let below : (get_or (values_of es) i d.1).id < (get_or (values_of es) j d.1).id =
        up i j d.1 (omega arith) (omega (arith, length-values es)) in
        higher _ _ id (omega (arith, ap (λ x. x.id) (value-at es i d), ap (λ x. x.id) (value-at es j d)))

-- where the items before a place are below the number and those from it on above, none has the number
missed : (id : ℕ) (es : List (List ℕ × Item)) (place k : ℕ) (d : List ℕ × Item) → k < length es → (get_or es k d).1.id ≡ id
    → IsPartitionPoint (λ e. nat_cmp e.1.id id ≡ Less) (λ e. nat_cmp e.1.id id ≡ Greater) es place → ⊥
missed id es place k d within here point = by (cases_lt k place)
  where
    by : (k < place) ⊎ (place ≤ k) → ⊥
    by (inl before) = let less = ranked (get_or es k d).1.id id Less (sym (point.0 k d (omega arith) before)) in omega arith
    by (inr behind) = let greater = ranked (get_or es k d).1.id id Greater (sym (point.1 k d behind within)) in omega arith

-- an item that is there is not missed
pub not-missed : (id : ℕ) (es : List (List ℕ × Item)) (place : ℕ) → Ascend (values_of es) → IsSome (numbered id (values_of es))
    → (IsNonDecreasingBy (λ e. ordering_index (nat_cmp e.1.id id)) es
    → IsPartitionPoint (λ e. nat_cmp e.1.id id ≡ Less) (λ e. nat_cmp e.1.id id ≡ Greater) es place) → ⊥
not-missed id [] place up there parted = true≢false (sym there)
not-missed id (e ∷ es) place up there parted =
    let at = place-numbered id (e ∷ es) there in
    missed id (e ∷ es) place at.0 e at.1 (at.2 e) (parted (rises id (e ∷ es) up))

-- so there is an item of the number
pub is-there : (id : ℕ) (es : List (List ℕ × Item)) (place : ℕ) → Ascend (values_of es) → place < length es
    → HoldsAt (λ e. nat_cmp e.1.id id ≡ Equal) es place → true ≡ is_some (numbered id (values_of es))
is-there id [] place up within at = absurd (omega arith)
is-there id (e ∷ es) place up within at =
    let all = e ∷ es in
    let some = slice_get-get_or (values_of all) place e.1 (omega (arith, length-values all)) in
    sym (ap is_some (sym (found-at id all place up within at) ∙ some))

-- what isn't true is false
not-true : (b : Bool) → (b ≡ true → ⊥) → false ≡ b
not-true true h = absurd (h refl)
not-true false h = refl

-- where none is missed, there is none
pub is-absent : (id : ℕ) (es : List (List ℕ × Item)) (place : ℕ) → Ascend (values_of es)
    → (IsNonDecreasingBy (λ e. ordering_index (nat_cmp e.1.id id)) es
    → IsPartitionPoint (λ e. nat_cmp e.1.id id ≡ Less) (λ e. nat_cmp e.1.id id ≡ Greater) es place)
    → false ≡ is_some (numbered id (values_of es))
is-absent id es place up parted = not-true _ (λ there. not-missed id es place up there parted)
