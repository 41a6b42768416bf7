-- How many tables an item names doesn't fall as its scope grows, nor where items go on which none depends.
use Rattle.std.proofs.Common.{◌≡◌, ◌∙◌, ◌<◌, ◌≤◌, ◌==◌, refl, sym, subst, ap, ℕ, Bool, true, false, IsTrue, cond, not, List, [], ◌∷◌, Result, Ok, Err, filter, arith}
use Rattle.std.specs.Prelude.{Contains, ⊤}
use Rattle.std.specs.List.{AllByRecursion as Each}
use Rattle.std.proofs.lemmas.Bool.{eqb-true, eq-eqb, ne_eqb}
use Rattle.std.proofs.lemmas.List.{reverse-append}
use Rattle.std.proofs.lemmas.List.Elements.{recursion_from_All}
use Rattle.mz_plan.specs.declared.item.Item.{Item}
use Rattle.mz_plan.specs.declared.item.ItemKind.{ItemKind}
use Rattle.mz_plan.specs.declared.item.ItemKind.TheVariants.{Table, View, Index}
use Rattle.mz_refusal.specs.declared.refusal.Refusal.{Refusal}
use Rattle.mz_plan.specs.declared.scope.Scope.{Scope}
use Rattle.mz_plan.specs.Items.{Ascend, depends, dependents, is_index, is_on}
use Rattle.mz_resolution.specs.declared.relation.NamedRelation.{NamedRelation}
use Rattle.mz_resolution.specs.Resolution.{item_relation, newest_first}
use Rattle.mz_resolve_laws.specs.Alike.{AreAlike}
use Rattle.mz_resolve_laws.specs.Growth.{IsNewIn, with_item, without_item}
use Rattle.mz_resolve_laws.specs.Sound.{names_among}
use Rattle.mz_resolve_laws.specs.SoundOver.{tables_found, tables_of_item}
use Rattle.mz_resolve_laws.proofs.DropLaws.{IsGone, NamesNone, filter_reverse, items_stay, none_depends}
use Rattle.mz_resolve_laws.proofs.Follows.{Follows}
use Rattle.mz_resolve_laws.proofs.NamesFollow.{AreNamedBy, Stays, alike_carried, all_stay, filter_all, item_follows, named_follows}
use Rattle.mz_resolve_laws.proofs.NameTables.{each_reverse}
use Rattle.mz_resolve_laws.proofs.ScopeLeaves.{newest_there}

-- ---- items that go

-- what follows names as many tables, or was refused
found_follows : (strict : Bool) (r s : Result NamedRelation Refusal) → Follows strict (AreNamedBy AreAlike) r s
    → tables_found r ≤ tables_found s
found_follows strict (Ok one) (Ok other) h = omega (arith, h.relations.tables)
found_follows strict (Ok one) (Err refusal) h = elim h [ ]
found_follows strict (Err refusal) s h = omega arith

-- an index names no table
index_none : (scope : Scope) (older : List Item) (item : Item) (kind : ItemKind) → is_index kind ≡ true
    → tables_found (item_relation scope (names_among scope older) item kind) ≡ 0
index_none scope older item (Table columns) e = absurd cc
index_none scope older item (View columns query) e = absurd cc
index_none scope older item (Index on below) e = refl

-- an item of this number stays, or is an index
abbrev pub IsSpared : (Item → Bool) → ℕ → Item → Type 0
IsSpared keep number item = item.id ≡ number → keep item ≡ false → is_index item.kind ≡ true

-- where some items go that no name means
pub tables_stay : (strict : Bool) (one other : Scope) (P : List ℕ → Type 0) (keep : Item → Bool) (items : List Item)
    → Each (Stays strict P keep) items → (number : ℕ) → Each (IsSpared keep number) items
    → tables_of_item one items number ≤ tables_of_item other (filter keep items) number
tables_stay strict one other P keep [] stays number spared = omega arith
tables_stay strict one other P keep (item ∷ older) stays number spared =
    by (keep item) refl (item.id == number) refl (tables_stay strict one other P keep older stays.1 number spared.1)
  where
    mine : ℕ
    mine = tables_found (item_relation one (names_among one older) item item.kind)

    other_mine : ℕ
    other_mine = tables_found (item_relation other (names_among other (filter keep older)) item item.kind)

    here : mine ≤ other_mine
    here = found_follows strict (item_relation one (names_among one older) item item.kind)
        (item_relation other (names_among other (filter keep older)) item item.kind)
        (item_follows strict AreAlike one other (alike_carried one other) P older (filter keep older)
        (λ word k. named_follows strict AreAlike one other (alike_carried one other) P keep older stays.1 word k) item item.kind
        stays.0.reads)

    by : (c : Bool) → keep item ≡ c → (d : Bool) → (item.id == number) ≡ d
        → tables_of_item one older number ≤ tables_of_item other (filter keep older) number
        → cond d mine (tables_of_item one older number)
        ≤ tables_of_item other (cond c (item ∷ filter keep older) (filter keep older)) number
    by true kept true same later =
        subst (λ d. mine ≤ cond d other_mine (tables_of_item other (filter keep older) number)) (sym same) here
    by true kept false same later =
        subst (λ d. tables_of_item one older number ≤ cond d other_mine (tables_of_item other (filter keep older) number)) (sym same) later
    by false gone true same later =
        omega (arith, index_none one older item item.kind (spared.0 (eqb-true item.id number same) gone))
    by false gone false same later = later

-- where all stay
all_spared : (number : ℕ) (items : List Item) → Each (IsSpared (λ item. true) number) items
all_spared number [] = tt
all_spared number (item ∷ items) = (λ same gone. absurd cc, all_spared number items)

-- the same items in another scope
pub tables_stay_all : (one other : Scope) (items : List Item) (number : ℕ)
    → tables_of_item one items number ≤ tables_of_item other items number
tables_stay_all one other items number =
    subst (λ others. tables_of_item one items number ≤ tables_of_item other others number) (filter_all items)
    (tables_stay true one other (λ word. ⊤) (λ item. true) items (all_stay items) number (all_spared number items))

-- ---- an item more

-- what is not there names none
tables_absent : (scope : Scope) (items : List Item) (number : ℕ) → Each (λ item. item.id < number) items
    → tables_of_item scope items number ≡ 0
tables_absent scope [] number less = refl
tables_absent scope (item ∷ older) number less =
    ap (λ c. cond c (tables_found (item_relation scope (names_among scope older) item item.kind)) (tables_of_item scope older number))
    (ne_eqb item.id number (λ e. omega (arith, e, less.0)))
    ∙ tables_absent scope older number less.1

-- with an item more, whose number is new
pub tables_grow : (scope : Scope) (item : Item) → IsNewIn scope item → (number : ℕ)
    → tables_of_item scope (newest_first scope) number
    ≤ tables_of_item (with_item scope item) (newest_first (with_item scope item)) number
tables_grow scope item new number =
    subst (λ items. tables_of_item scope (newest_first scope) number ≤ tables_of_item (with_item scope item) items number)
    (sym (reverse-append scope.items (item ∷ []))) (by (item.id == number) refl)
  where
    mine : ℕ
    mine = tables_found (item_relation (with_item scope item) (names_among (with_item scope item) (newest_first scope)) item item.kind)

    less : Each (λ older. older.id < item.id) (newest_first scope)
    less = each_reverse (λ older. older.id < item.id) scope.items (recursion_from_All (λ older. older.id < item.id) scope.items new)

    by : (c : Bool) → (item.id == number) ≡ c → tables_of_item scope (newest_first scope) number
        ≤ cond c mine (tables_of_item (with_item scope item) (newest_first scope) number)
    by true same =
        let absent = tables_absent scope (newest_first scope) number
        (subst (λ n. Each (λ older. older.id < n) (newest_first scope)) (eqb-true item.id number same) less) in
        omega (arith, absent)
    by false same = tables_stay_all scope (with_item scope item) (newest_first scope) number

-- ---- an item that goes

-- what an index is on isn't what goes
pub on_spared : (scope : Scope) → Ascend scope.items → (gone : ℕ) → dependents gone scope.items ≡ [] → (index : Item)
    → Contains scope.items index → (on : ℕ) → IsTrue (is_on on index.kind) → (items : List Item) → Each (Contains scope.items) items
    → Each (IsSpared (λ item. not (item.id == gone)) on) items
on_spared scope up gone none index there on is [] h = tt
on_spared scope up gone none index there on is (item ∷ items) h = (
  λ same goes. by (is_index item.kind) refl same (negated (item.id == gone) goes),
  on_spared scope up gone none index there on is items h.1,
)
  where
    negated : (c : Bool) → not c ≡ false → c ≡ true
    negated true h = refl
    negated false h = absurd cc

    held : (kind : ItemKind) → IsTrue (is_on on kind) → item.id ≡ on → depends kind item ≡ false → ⊥
    held (Table columns) is same free = absurd cc
    held (View columns query) is same free = absurd cc
    held (Index below plan) is same free =
        let here : (below == item.id) ≡ true = eq-eqb below item.id (eqb-true below on is ∙ sym same) in cc

    by : (c : Bool) → is_index item.kind ≡ c → item.id ≡ on → (item.id == gone) ≡ true → c ≡ true
    by true e same goes = refl
    by false e same goes =
        absurd (held index.kind is same (none_depends scope.items up gone none index there item
        (record { there = h.0; numbered = eqb-true item.id gone goes; readable = e })))

-- without an item on which none depends, what an index is on
pub tables_spared : (scope : Scope) → Ascend scope.items → (gone : ℕ) → dependents gone scope.items ≡ [] → (index : Item)
    → Contains scope.items index → (on : ℕ) → IsTrue (is_on on index.kind)
    → tables_of_item scope (newest_first scope) on ≤ tables_of_item (without_item gone scope) (newest_first (without_item gone scope)) on
tables_spared scope up gone none index there on is =
    subst (λ items. tables_of_item scope (newest_first scope) on ≤ tables_of_item (without_item gone scope) items on)
    (sym (filter_reverse (λ item. not (item.id == gone)) scope.items))
    (tables_stay false scope (without_item gone scope) (NamesNone (IsGone scope.items gone)) (λ item. not (item.id == gone))
    (newest_first scope) (items_stay scope.items up gone none (newest_first scope) (newest_there scope)) on
    (on_spared scope up gone none index there on is (newest_first scope) (newest_there scope)))
