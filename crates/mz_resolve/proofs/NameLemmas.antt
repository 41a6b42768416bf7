-- What a name stands for in a catalog: its item, whose own names are those of older items.
use Rattle.std.proofs.Common.{◌≡◌, ◌≢◌, ℕ, zero, suc, ◌<◌, ◌≤◌, Bool, true, false, cond, List, [], ◌∷◌, ◌++◌, reverse, Option, None, Some, Err, find, filter, bytes_eq, nat_lt, refl, sym, ap, subst, ◌∙◌, arith}
use Rattle.std.specs.Prelude.{⊤}
use Rattle.std.specs.List.{All, AllPairs, AllByRecursion as Each}
use Rattle.std.specs.Option.{option_map, option_or, IfSome}
use Rattle.std.proofs.lemmas.Bool.{lt-ltb, ltb-true}
use Rattle.std.proofs.lemmas.List.{reverse-append}
use Rattle.std.proofs.lemmas.List.Elements.{filter-append}
use Rattle.std.proofs.lemmas.List.Folds.{find-append}
use Rattle.std.proofs.lemmas.Slice.Eq.{bytes_eq-Decides}
use Rattle.mz_plan.specs.declared.item.Item.{Item}
use Rattle.mz_refusal.specs.declared.refusal.Refusal.TheVariants.{UnknownName}
use Rattle.mz_plan.specs.declared.scope.Scope.{Scope}
use Rattle.mz_plan.specs.Items.{Ascend, numbered}
use Rattle.mz_plan.specs.Items as catalogs
use Rattle.mz_catalog.specs.CatalogState.{CatalogState, IsCatalog}
use Rattle.mz_catalog.proofs.ItemLemmas.{ascend-head, ascend-tail, id-numbered, numbered-named}
use Rattle.mz_resolution.specs.declared.relation.NamedRelation.{NamedRelation}
use Rattle.mz_resolution.specs.Resolution.{item_relation, named, without_number}
use Rattle.mz_resolution.specs.Steps.{Step}
use Rattle.mz_resolve.specs.InCatalog.{items_below, names_below, scope_in}

-- ---- items, the newest first

-- each item is above all behind it
abbrev Falls : List Item → Type 0
Falls [] = ⊤
Falls (item ∷ items) = Each (λ later. later.id < item.id) items × Falls items

pub each_of : (P : Item → Type 0) (items : List Item) → All P items → Each P items
each_of P [] all = tt
each_of P (item ∷ items) all = (all zero item (omega arith), each_of P items (λ k d within. all (suc k) d (omega arith)))

each_append : (P : Item → Type 0) (xs ys : List Item) → Each P xs → Each P ys → Each P (xs ++ ys)
each_append P [] ys one other = other
each_append P (x ∷ xs) ys one other = (one.0, each_append P xs ys one.1 other)

each_filter : (P : Item → Type 0) (test : Item → Bool) (items : List Item) → Each P items → Each P (filter test items)
each_filter P test [] each = tt
each_filter P test (item ∷ items) each = by (test item) (each_filter P test items each.1)
  where
    by : (b : Bool) → Each P (filter test items) → Each P (cond b (item ∷ filter test items) (filter test items))
    by true rest = (each.0, rest)
    by false rest = rest

-- the oldest item is last
oldest_last : (item : Item) (items : List Item) → reverse (item ∷ items) ≡ reverse items ++ item ∷ []
oldest_last item items = reverse-append (item ∷ []) items

each_reverse : (P : Item → Type 0) (items : List Item) → Each P items → Each P (reverse items)
each_reverse P [] each = tt
each_reverse P (item ∷ items) each =
    subst (Each P) (sym (oldest_last item items)) (each_append P (reverse items) (item ∷ []) (each_reverse P items each.1) (each.0, tt))

falls_push : (item : Item) (items : List Item) → Falls items → Each (λ other. item.id < other.id) items → Falls (items ++ item ∷ [])
falls_push item [] falls above = (tt, tt)
falls_push item (other ∷ others) falls above =
    (each_append (λ later. later.id < other.id) others (item ∷ []) falls.0 (above.0, tt), falls_push item others falls.1 above.1)

-- what ascends falls from its end
falls_reverse : (items : List Item) → Ascend items → Falls (reverse items)
falls_reverse [] up = tt
falls_reverse (item ∷ items) up =
    subst Falls (sym (oldest_last item items))
    (falls_push item (reverse items) (falls_reverse items (ascend-tail item items up))
    (each_reverse (λ other. item.id < other.id) items (each_of (λ other. item.id < other.id) items (ascend-head item items up))))

-- items below a number stay
below_all : (below : ℕ) (items : List Item) → Each (λ item. item.id < below) items → filter (λ item. nat_lt item.id below) items ≡ items
below_all below [] each = refl
below_all below (item ∷ items) each =
    ap (λ b. cond b (item ∷ filter (λ other. nat_lt other.id below) items) (filter (λ other. nat_lt other.id below) items))
    (lt-ltb item.id below each.0)
    ∙ ap (λ others. item ∷ others) (below_all below items each.1)

-- an item that isn't below a number goes
below_first : (below : ℕ) (item : Item) (items : List Item) → below ≤ item.id
    → filter (λ other. nat_lt other.id below) (item ∷ items) ≡ filter (λ other. nat_lt other.id below) items
below_first below item items not_below =
    ap (λ b. cond b (item ∷ filter (λ other. nat_lt other.id below) items) (filter (λ other. nat_lt other.id below) items))
    (apart item.id below not_below)
  where
    apart : (a b : ℕ) → b ≤ a → nat_lt a b ≡ false
    apart a b le = grind arith

-- what is found is one of the items
pub found_each : (P : Item → Type 0) (test : Item → Bool) (items : List Item) → Each P items → IfSome (find test items) P
found_each P test [] each = tt
found_each P test (item ∷ items) each = by (test item) (found_each P test items each.1)
  where
    by : (b : Bool) → IfSome (find test items) P → IfSome (cond b (Some item) (find test items)) P
    by true rest = each.0
    by false rest = rest

-- ---- names

-- what the item that a name finds stands for, where older items are those of the list with lower numbers
abbrev stands : Scope → List Item → List ℕ → Option Item → Step NamedRelation
stands scope items name None = Err (UnknownName name)
stands scope items name (Some item) =
    item_relation scope (λ word. without_number (named scope (filter (λ other. nat_lt other.id item.id) items) word)) item item.kind

-- a newer item makes no difference
stands_older : (scope : Scope) (newer : Item) (items : List Item) (name : List ℕ) (found : Option Item)
    → IfSome found (λ item. item.id < newer.id) → stands scope items name found ≡ stands scope (newer ∷ items) name found
stands_older scope newer items name None older = refl
stands_older scope newer items name (Some item) older =
    ap (λ others. item_relation scope (λ word. without_number (named scope others word)) item item.kind)
    (sym (below_first item.id newer items (omega arith)))

-- items below a lower number are below a higher one
each_lower : (low high : ℕ) (items : List Item) → low < high → Each (λ item. item.id < low) items → Each (λ item. item.id < high) items
each_lower low high [] lower each = tt
each_lower low high (item ∷ items) lower each = (omega (arith, each.0), each_lower low high items lower each.1)

-- the newest item, where it is below the number, is found or stands aside
newest_stands : (scope : Scope) (below : ℕ) (name : List ℕ) (newest : Item) (older rest : List Item) (b : Bool) → newest.id < below
    → Each (λ item. item.id < newest.id) older → rest ≡ older
    → named scope rest name ≡ stands scope (newest ∷ older) name (find (λ item. bytes_eq name item.name) rest)
    → cond b (item_relation scope (λ word. without_number (named scope rest word)) newest newest.kind) (named scope rest name)
    ≡ stands scope (newest ∷ older) name (cond b (Some newest) (find (λ item. bytes_eq name item.name) rest))
newest_stands scope below name newest older rest true lower each all behind =
    ap (λ others. item_relation scope (λ word. without_number (named scope others word)) newest newest.kind)
    (all ∙ sym (below_first newest.id newest older (omega arith) ∙ below_all newest.id older each))
newest_stands scope below name newest older rest false lower each all behind = behind

-- a name among the items below a number stands for what it finds there
named_stands : (scope : Scope) (below : ℕ) (name : List ℕ) (items : List Item) → Falls items
    → named scope (filter (λ item. nat_lt item.id below) items) name
    ≡ stands scope items name (find (λ item. bytes_eq name item.name) (filter (λ item. nat_lt item.id below) items))
named_stands scope below name [] falls = refl
named_stands scope below name (newest ∷ older) falls =
    by (nat_lt newest.id below) refl
    (named_stands scope below name older falls.1
    ∙ stands_older scope newest older name (find (λ item. bytes_eq name item.name) (filter (λ item. nat_lt item.id below) older))
    (found_each (λ item. item.id < newest.id) (λ item. bytes_eq name item.name) (filter (λ item. nat_lt item.id below) older)
    (each_filter (λ item. item.id < newest.id) (λ item. nat_lt item.id below) older falls.0)))
  where
    rest : List Item
    rest = filter (λ item. nat_lt item.id below) older

    by : (b : Bool) → nat_lt newest.id below ≡ b
        → named scope rest name ≡ stands scope (newest ∷ older) name (find (λ item. bytes_eq name item.name) rest)
        → named scope (cond b (newest ∷ rest) rest) name
        ≡ stands scope (newest ∷ older) name (find (λ item. bytes_eq name item.name) (cond b (newest ∷ rest) rest))
    by true is behind =
        let lower : newest.id < below = ltb-true newest.id below is in
        newest_stands scope below name newest older rest (bytes_eq name newest.name) lower falls.0
        (below_all below older (each_lower newest.id below older lower falls.0)) behind
    by false is behind = behind

-- ---- what a catalog finds

-- an item, where it is below the number
abbrev kept : ℕ → Option Item → Option Item
kept below None = None
kept below (Some item) = cond (nat_lt item.id below) (Some item) None

-- none of the items has the name where each has another one
absent_named : (name : List ℕ) (items : List Item) → Each (λ item. name ≢ item.name) items → catalogs.named name items ≡ None
absent_named name [] each = refl
absent_named name (item ∷ items) each = by (bytes_eq name item.name) refl (absent_named name items each.1)
  where
    by : (b : Bool) → bytes_eq name item.name ≡ b → catalogs.named name items ≡ None → cond b (Some item) (catalogs.named name items) ≡ None
    by true is rest = absurd (each.0 ((bytes_eq-Decides name item.name).0 is))
    by false is rest = rest

or_none : (found : Option Item) → option_or found None ≡ found
or_none None = refl
or_none (Some item) = refl

-- where names are distinct, the newest item of a name among those below a number is the only one of the name, if it is below
newest_named : (name : List ℕ) (below : ℕ) (items : List Item) → AllPairs (λ one other. one.name ≢ other.name) items
    → find (λ item. bytes_eq name item.name) (items_below below items) ≡ kept below (catalogs.named name items)
newest_named name below [] names = refl
newest_named name below (oldest ∷ items) names =
    ap (λ all. find (λ item. bytes_eq name item.name) (filter (λ item. nat_lt item.id below) all)) (oldest_last oldest items)
    ∙ ap (find (λ item. bytes_eq name item.name)) (filter-append (λ item. nat_lt item.id below) (reverse items) (oldest ∷ []))
    ∙ find-append (λ item. bytes_eq name item.name) (items_below below items) (filter (λ item. nat_lt item.id below) (oldest ∷ []))
    ∙ ap (λ found. option_or found (find (λ item. bytes_eq name item.name) (filter (λ item. nat_lt item.id below) (oldest ∷ []))))
    (newest_named name below items (λ i j d lt within. names (suc i) (suc j) d (omega arith) (omega arith)))
    ∙ by (bytes_eq name oldest.name) refl
  where
    others : Each (λ item. oldest.name ≢ item.name) items
    others = each_of (λ item. oldest.name ≢ item.name) items (λ k d within. names zero (suc k) d (omega arith) (omega arith))

    alone : (b c : Bool) → bytes_eq name oldest.name ≡ b
        → find (λ item. bytes_eq name item.name) (cond c (oldest ∷ []) []) ≡ cond c (cond b (Some oldest) None) None
    alone b true is = ap (λ e. cond e (Some oldest) None) is
    alone b false is = refl

    never : (c : Bool) → cond c (cond false (Some oldest) None) None ≡ None
    never true = refl
    never false = refl

    by : (b : Bool) → bytes_eq name oldest.name ≡ b
        → option_or (kept below (catalogs.named name items))
        (find (λ item. bytes_eq name item.name) (filter (λ item. nat_lt item.id below) (oldest ∷ [])))
        ≡ kept below (cond b (Some oldest) (catalogs.named name items))
    by true is =
        let same : name ≡ oldest.name = (bytes_eq-Decides name oldest.name).0 is in
        ap (λ found. option_or (kept below found)
        (find (λ item. bytes_eq name item.name) (filter (λ item. nat_lt item.id below) (oldest ∷ []))))
        (absent_named name items (subst (λ word. Each (λ item. word ≢ item.name) items) (sym same) others))
        ∙ alone true (nat_lt oldest.id below) is
    by false is =
        ap (option_or (kept below (catalogs.named name items))) (alone false (nat_lt oldest.id below) is ∙ never (nat_lt oldest.id below))
        ∙ or_none (kept below (catalogs.named name items))

-- a name that finds a number finds the item of this number
pub found_item : (catalog : CatalogState) (name : List ℕ) (id : ℕ) (item : Item) → IsCatalog catalog
    → Some id ≡ option_map (λ other. other.id) (catalogs.named name catalog.items) → numbered id catalog.items ≡ Some item
    → catalogs.named name catalog.items ≡ Some item
found_item catalog name id item is finds has = by (catalogs.named name catalog.items) refl finds
  where
    by : (found : Option Item) → catalogs.named name catalog.items ≡ found → Some id ≡ option_map (λ other. other.id) found
        → found ≡ Some item
    by None at finds = absurd cc
    by (Some other) at finds =
        let number : id ≡ other.id = cc in
        sym (ap (λ n. numbered n catalog.items) number ∙ numbered-named name catalog.items other is.numbers at) ∙ has

-- a name that finds a number below, with the item of this number, finds the item among those below
pub found_below : (catalog : CatalogState) (name : List ℕ) (below id : ℕ) (item : Item) → IsCatalog catalog
    → Some id ≡ option_map (λ other. other.id) (catalogs.named name catalog.items) → numbered id catalog.items ≡ Some item → id < below
    → find (λ other. bytes_eq name other.name) (items_below below catalog.items) ≡ Some item
found_below catalog name below id item is finds has under =
    newest_named name below catalog.items is.names
    ∙ ap (kept below) (found_item catalog name id item is finds has)
    ∙ ap (λ b. cond b (Some item) None) (lt-ltb item.id below (omega (arith, id-numbered id catalog.items item has, under)))

-- one that finds a number that isn't below finds no item there
pub found_above : (catalog : CatalogState) (name : List ℕ) (below id : ℕ) → IsCatalog catalog
    → Some id ≡ option_map (λ other. other.id) (catalogs.named name catalog.items) → below ≤ id
    → find (λ other. bytes_eq name other.name) (items_below below catalog.items) ≡ None
found_above catalog name below id is finds above =
    newest_named name below catalog.items is.names ∙ by (catalogs.named name catalog.items) finds
  where
    apart : (a b : ℕ) → b ≤ a → nat_lt a b ≡ false
    apart a b le = grind arith

    by : (found : Option Item) → Some id ≡ option_map (λ other. other.id) found → kept below found ≡ None
    by None finds = refl
    by (Some other) finds =
        let number : id ≡ other.id = cc in
        ap (λ b. cond b (Some other) None) (apart other.id below (omega (arith, number, above)))

-- and so does one that finds no number
pub found_nowhere : (catalog : CatalogState) (name : List ℕ) (below : ℕ) → IsCatalog catalog
    → None ≡ option_map (λ other. other.id) (catalogs.named name catalog.items)
    → find (λ other. bytes_eq name other.name) (items_below below catalog.items) ≡ None
found_nowhere catalog name below is finds =
    newest_named name below catalog.items is.names ∙ by (catalogs.named name catalog.items) finds
  where
    by : (found : Option Item) → None ≡ option_map (λ other. other.id) found → kept below found ≡ None
    by None finds = refl
    by (Some other) finds = absurd cc

-- the item that a name finds among those below a number is what the name stands for there
pub named_found : (catalog : CatalogState) (cluster below : ℕ) (name : List ℕ) (item : Item) → IsCatalog catalog
    → find (λ other. bytes_eq name other.name) (items_below below catalog.items) ≡ Some item
    → named (scope_in catalog cluster) (items_below below catalog.items) name
    ≡ item_relation (scope_in catalog cluster) (names_below catalog cluster item.id) item item.kind
named_found catalog cluster below name item is finds =
    named_stands (scope_in catalog cluster) below name (reverse catalog.items) (falls_reverse catalog.items is.numbers)
    ∙ ap (stands (scope_in catalog cluster) (reverse catalog.items) name) finds

-- a name that finds none is unknown
pub named_nowhere : (catalog : CatalogState) (cluster below : ℕ) (name : List ℕ) → IsCatalog catalog
    → find (λ other. bytes_eq name other.name) (items_below below catalog.items) ≡ None
    → named (scope_in catalog cluster) (items_below below catalog.items) name ≡ Err (UnknownName name)
named_nowhere catalog cluster below name is finds =
    named_stands (scope_in catalog cluster) below name (reverse catalog.items) (falls_reverse catalog.items is.numbers)
    ∙ ap (stands (scope_in catalog cluster) (reverse catalog.items) name) finds

-- all items are below the next number
pub below_next : (catalog : CatalogState) → IsCatalog catalog → items_below catalog.next catalog.items ≡ reverse catalog.items
below_next catalog is =
    below_all catalog.next (reverse catalog.items)
    (each_reverse (λ item. item.id < catalog.next) catalog.items (each_of (λ item. item.id < catalog.next) catalog.items is.below))
