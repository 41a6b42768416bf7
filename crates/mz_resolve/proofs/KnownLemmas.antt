-- What is known, before and after one item more.
use Rattle.std.proofs.Common.{◌≡◌, ℕ, Bool, true, false, ◌||◌, cond, List, [], ◌∷◌, ◌++◌, Option, None, Some, Result, is_some, nat_eq, refl, sym, ap, subst, ◌∙◌, true≢false}
use Rattle.std.specs.List.{AllByRecursion as Each}
use Rattle.std.specs.Map.{lookup}
use Rattle.std.specs.Option.{IfSome, option_map}
use Rattle.std.proofs.lemmas.Bool.{eqb-true, eq-eqb}
use Rattle.mz_plan.specs.Items.{numbered}
use Rattle.mz_plan.specs.declared.item.Item.{Item}
use Rattle.mz_refusal.specs.declared.fault.CallFault.{CallFault}
use Rattle.mz_catalog.specs.CatalogState.{CatalogState}
use Rattle.mz_resolution.specs.Steps.{Step}
use Rattle.mz_resolution.specs.declared.relation.NamedRelation.{NamedRelation}
use Rattle.mz_select.specs.Gives.{Is}
use Rattle.mz_resolve.specs.Known.{IsTrueOf, Keeps, Known, is_known, stands_at, stands_for}

-- ---- one item more

-- what is known with one item more: that item, and what was known
pub known_push : (known : Known) (id : ℕ) (kept : Step NamedRelation) (other : ℕ)
    → is_known (known ++ (id, kept) ∷ []) other ≡ (is_known known other || nat_eq other id)
known_push [] id kept other = by (nat_eq other id)
  where
    by : (b : Bool) → is_some (cond b (Some kept) None) ≡ b
    by true = refl
    by false = refl
known_push (entry ∷ known) id kept other = by (nat_eq other entry.0) (known_push known id kept other)
  where
    by : (b : Bool) → is_known (known ++ (id, kept) ∷ []) other ≡ (is_known known other || nat_eq other id)
        → is_some (cond b (Some entry.1) (lookup (nat_eq other) (known ++ (id, kept) ∷ [])))
        ≡ (is_some (cond b (Some entry.1) (lookup (nat_eq other) known)) || nat_eq other id)
    by true rest = refl
    by false rest = rest

-- nothing is kept of what isn't known
pub none_known : (known : Known) (id : ℕ) → is_known known id ≡ false → lookup (nat_eq id) known ≡ None
none_known known id unknown = by (lookup (nat_eq id) known) unknown
  where
    by : (found : Option (Step NamedRelation)) → is_some found ≡ false → found ≡ None
    by None none = refl
    by (Some kept) none = absurd (true≢false none)

or_true : (b : Bool) → (b || true) ≡ true
or_true true = refl
or_true false = refl

-- the item itself is known
pub known_here : (known : Known) (id : ℕ) (kept : Step NamedRelation) → is_known (known ++ (id, kept) ∷ []) id ≡ true
known_here known id kept =
    known_push known id kept id ∙ ap (λ b. is_known known id || b) (eq-eqb id id refl) ∙ or_true (is_known known id)

-- nothing is forgotten
pub keeps_same : (known : Known) → Keeps known known
keeps_same known = record { known = λ id there. there }

pub keeps_both : (one two three : Known) → Keeps one two → Keeps two three → Keeps one three
keeps_both one two three first second = record { known = λ id there. second.known id (first.known id there) }

pub keeps_push : (known : Known) (id : ℕ) (kept : Step NamedRelation) → Keeps known (known ++ (id, kept) ∷ [])
keeps_push known id kept =
    record { known = λ other there. known_push known id kept other ∙ ap (λ b. b || nat_eq other id) there }

-- ---- what is kept

each_push : {A : Type 0} (P : A → Type 0) (xs : List A) (y : A) → Each P xs → P y → Each P (xs ++ y ∷ [])
each_push P [] y all last = (last, tt)
each_push P (x ∷ xs) y all last = (all.0, each_push P xs y all.1 last)

-- nothing is known at first
pub true_none : (catalog : CatalogState) (cluster : ℕ) (known : Known) → known ≡ [] → IsTrueOf catalog cluster known
true_none catalog cluster known none = subst (IsTrueOf catalog cluster) (sym none) (record { entries = tt })

-- an item is kept with what it stands for
pub true_push : (catalog : CatalogState) (cluster : ℕ) (known : Known) (id : ℕ) (kept : Step NamedRelation) → IsTrueOf catalog cluster known
    → stands_at catalog cluster id ≡ Some kept → IsTrueOf catalog cluster (known ++ (id, kept) ∷ [])
true_push catalog cluster known id kept holds stands = record {
  entries = each_push (λ entry. stands_at catalog cluster entry.0 ≡ Some entry.1) known (id, kept) holds.entries stands;
}

-- what is kept under a number is what its item stands for
lookup_true : (catalog : CatalogState) (cluster : ℕ) (known : Known) (id : ℕ)
    → Each (λ entry. stands_at catalog cluster entry.0 ≡ Some entry.1) known
    → IfSome (lookup (nat_eq id) known) (λ kept. stands_at catalog cluster id ≡ Some kept)
lookup_true catalog cluster [] id all = tt
lookup_true catalog cluster (entry ∷ known) id all = by (nat_eq id entry.0) refl (lookup_true catalog cluster known id all.1)
  where
    by : (b : Bool) → nat_eq id entry.0 ≡ b → IfSome (lookup (nat_eq id) known) (λ kept. stands_at catalog cluster id ≡ Some kept)
        → IfSome (cond b (Some entry.1) (lookup (nat_eq id) known)) (λ kept. stands_at catalog cluster id ≡ Some kept)
    by true is rest = subst (λ n. stands_at catalog cluster n ≡ Some entry.1) (sym (eqb-true id entry.0 is)) all.0
    by false is rest = rest

-- what is given of an item that is known, by what is kept, is what it stands for
pub known_stands : (catalog : CatalogState) (cluster : ℕ) (known : Known) (item : Item) (result : Result NamedRelation CallFault)
    → IsTrueOf catalog cluster known → numbered item.id catalog.items ≡ Some item → is_known known item.id ≡ true
    → IfSome (lookup (nat_eq item.id) known) (λ kept. Is result kept) → Is result (stands_for catalog cluster item)
known_stands catalog cluster known item result holds there is_there gives =
    by (lookup (nat_eq item.id) known) is_there (lookup_true catalog cluster known item.id holds.entries) gives
  where
    by : (found : Option (Step NamedRelation)) → is_some found ≡ true
        → IfSome found (λ kept. stands_at catalog cluster item.id ≡ Some kept)
        → IfSome found (λ kept. Is result kept) → Is result (stands_for catalog cluster item)
    by None some kept gives = absurd (true≢false (sym some))
    by (Some found) some kept gives =
        let both : Some (stands_for catalog cluster item) ≡ Some found = ap (option_map (stands_for catalog cluster)) (sym there) ∙ kept in
        let same : stands_for catalog cluster item ≡ found = cc in
        subst (Is result) (sym same) gives
