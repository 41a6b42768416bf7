-- Names of which all items are known, as more is known.
use Rattle.std.proofs.Common.{◌≡◌, ℕ, ◌+◌, ◌<◌, Bool, true, false, cond, List, [], ◌∷◌, ◌++◌, Option, None, Some, length, get_or, take, drop, map, refl, sym, ap, subst, ◌∙◌}
use Rattle.std.specs.Option.{option_or}
use Rattle.std.proofs.lemmas.List.{at_drop_more, take_more}
use Rattle.mz_statement.specs.declared.query.Select.{Select}
use Rattle.mz_statement.specs.declared.reference.Join.{Join}
use Rattle.mz_statement.specs.declared.reference.Reference.{Reference}
use Rattle.mz_plan.specs.Items.{references}
use Rattle.mz_plan.specs.declared.item.Item.{Item}
use Rattle.mz_catalog.specs.CatalogState.{CatalogState}
use Rattle.mz_resolve.specs.Known.{Keeps, Known, is_known}
use Rattle.mz_resolve.specs.Unknown.{item_below, unknown_in, unknown_item, unknown_named, unknown_of}

-- ---- the first of two

pub none_first : {A : Type 0} (one other : Option A) → option_or one other ≡ None → one ≡ None
none_first None other none = refl
none_first (Some x) other none = none

pub none_second : {A : Type 0} (one other : Option A) → option_or one other ≡ None → other ≡ None
none_second None other none = none
none_second (Some x) other none = absurd cc

pub none_both : {A : Type 0} (one other : Option A) → one ≡ None → other ≡ None → option_or one other ≡ None
none_both None other first second = second
none_both (Some x) other first second = first

-- ---- one item

-- an item that isn't unknown is known
pub item_known : (known : Known) (item : Item) → unknown_item known (Some item) ≡ None → is_known known item.id ≡ true
item_known known item none = by (is_known known item.id) none
  where
    by : (b : Bool) → cond b None (Some item.id) ≡ None → b ≡ true
    by true none = refl
    by false none = absurd cc

-- the number of an unknown item, by the item
pub item_unknown : (known : Known) (item : Item) → is_known known item.id ≡ false → unknown_item known (Some item) ≡ Some item.id
item_unknown known item unknown = ap (λ b. cond b None (Some item.id)) unknown

-- once the item that was unknown is known, none is unknown
pub item_reached : (before after : Known) (found : Option Item) (id : ℕ) → unknown_item before found ≡ Some id
    → is_known after id ≡ true → unknown_item after found ≡ None
item_reached before after None id was is = refl
item_reached before after (Some item) id was is = by (is_known before item.id) was
  where
    by : (b : Bool) → cond b None (Some item.id) ≡ Some id → unknown_item after (Some item) ≡ None
    by true was = absurd cc
    by false was =
        let same : item.id ≡ id = cc in
        ap (λ b. cond b None (Some item.id)) (subst (λ n. is_known after n ≡ true) (sym same) is)

-- what is known stays known
pub item_kept : (before after : Known) (found : Option Item) → Keeps before after → unknown_item before found ≡ None
    → unknown_item after found ≡ None
item_kept before after None keeps none = refl
item_kept before after (Some item) keeps none =
    ap (λ b. cond b None (Some item.id)) (keeps.known item.id (item_known before item none))

-- ---- references

pub of_kept : (before after : Known) (catalog : CatalogState) (below : ℕ) (refs : List Reference) → Keeps before after
    → unknown_of before catalog below refs ≡ None → unknown_of after catalog below refs ≡ None
of_kept before after catalog below [] keeps none = refl
of_kept before after catalog below (first ∷ others) keeps none =
    none_both (unknown_named after catalog below first.name) (unknown_of after catalog below others)
    (item_kept before after (item_below catalog below first.name) keeps
    (none_first (unknown_named before catalog below first.name) (unknown_of before catalog below others) none))
    (of_kept before after catalog below others keeps
    (none_second (unknown_named before catalog below first.name) (unknown_of before catalog below others) none))

-- ---- JOINs

-- the number of the first item that a JOIN names and that isn't known
abbrev pub unknown_joined : Known → CatalogState → ℕ → List Join → Option ℕ
unknown_joined known catalog below joins = unknown_of known catalog below (map (λ join. join.reference) joins)

joined_push : (known : Known) (catalog : CatalogState) (below : ℕ) (joins : List Join) (join : Join)
    → unknown_joined known catalog below joins ≡ None → unknown_named known catalog below join.reference.name ≡ None
    → unknown_joined known catalog below (joins ++ join ∷ []) ≡ None
joined_push known catalog below [] join none one = none_both (unknown_named known catalog below join.reference.name) None one refl
joined_push known catalog below (first ∷ others) join none one =
    let named = unknown_named known catalog below first.reference.name in
    none_both named (unknown_joined known catalog below (others ++ join ∷ []))
    (none_first named (unknown_joined known catalog below others) none)
    (joined_push known catalog below others join (none_second named (unknown_joined known catalog below others) none) one)

-- one JOIN more
pub joined_more : (before after : Known) (catalog : CatalogState) (below : ℕ) (joins : List Join) (place : ℕ) (join : Join)
    → Keeps before after → place < length joins → join ≡ get_or joins place join
    → unknown_joined before catalog below (take place joins) ≡ None
    → unknown_named after catalog below join.reference.name ≡ None
    → unknown_joined after catalog below (take (place + 1) joins) ≡ None
joined_more before after catalog below joins place join keeps within is none one =
    ap (unknown_joined after catalog below) (take_more joins place join within ∙ ap (λ last. take place joins ++ last ∷ []) (sym is))
    ∙ joined_push after catalog below (take place joins) join
    (of_kept before after catalog below (map (λ other. other.reference) (take place joins)) keeps none) one

-- the first JOIN that is left, and those behind it
pub joined_next : (known : Known) (catalog : CatalogState) (below : ℕ) (joins : List Join) (place : ℕ) (join : Join)
    → place < length joins → join ≡ get_or joins place join → unknown_joined known catalog below (drop place joins) ≡ None
    → (unknown_named known catalog below join.reference.name ≡ None) × (unknown_joined known catalog below (drop (place + 1) joins) ≡ None)
joined_next known catalog below joins place join within is none =
    let both : unknown_joined known catalog below (join ∷ drop (place + 1) joins) ≡ None =
    ap (λ next. unknown_joined known catalog below (next ∷ drop (place + 1) joins)) is
    ∙ sym (at_drop_more (unknown_joined known catalog below) joins place join within) ∙ none in (
      none_first (unknown_named known catalog below join.reference.name) (unknown_joined known catalog below (drop (place + 1) joins)) both,
      none_second (unknown_named known catalog below join.reference.name) (unknown_joined known catalog below (drop (place + 1) joins)) both,
    )

-- ---- selects

pub in_kept : (before after : Known) (catalog : CatalogState) (below : ℕ) (selects : List Select) → Keeps before after
    → unknown_in before catalog below selects ≡ None → unknown_in after catalog below selects ≡ None
in_kept before after catalog below [] keeps none = refl
in_kept before after catalog below (first ∷ others) keeps none =
    none_both (unknown_of after catalog below (references first)) (unknown_in after catalog below others)
    (of_kept before after catalog below (references first) keeps
    (none_first (unknown_of before catalog below (references first)) (unknown_in before catalog below others) none))
    (in_kept before after catalog below others keeps
    (none_second (unknown_of before catalog below (references first)) (unknown_in before catalog below others) none))

in_push : (known : Known) (catalog : CatalogState) (below : ℕ) (selects : List Select) (select : Select)
    → unknown_in known catalog below selects ≡ None → unknown_of known catalog below (references select) ≡ None
    → unknown_in known catalog below (selects ++ select ∷ []) ≡ None
in_push known catalog below [] select none one = none_both (unknown_of known catalog below (references select)) None one refl
in_push known catalog below (first ∷ others) select none one =
    let named = unknown_of known catalog below (references first) in
    none_both named (unknown_in known catalog below (others ++ select ∷ []))
    (none_first named (unknown_in known catalog below others) none)
    (in_push known catalog below others select (none_second named (unknown_in known catalog below others) none) one)

-- one select more
pub in_more : (before after : Known) (catalog : CatalogState) (below : ℕ) (selects : List Select) (place : ℕ) (select : Select)
    → Keeps before after → place < length selects → select ≡ get_or selects place select
    → unknown_in before catalog below (take place selects) ≡ None
    → unknown_of after catalog below (references select) ≡ None
    → unknown_in after catalog below (take (place + 1) selects) ≡ None
in_more before after catalog below selects place select keeps within is none one =
    ap (unknown_in after catalog below) (take_more selects place select within ∙ ap (λ last. take place selects ++ last ∷ []) (sym is))
    ∙ in_push after catalog below (take place selects) select (in_kept before after catalog below (take place selects) keeps none) one

-- the first select that is left, and those behind it
pub in_next : (known : Known) (catalog : CatalogState) (below : ℕ) (selects : List Select) (place : ℕ) (select : Select)
    → place < length selects → select ≡ get_or selects place select → unknown_in known catalog below (drop place selects) ≡ None
    → (unknown_of known catalog below (references select) ≡ None) × (unknown_in known catalog below (drop (place + 1) selects) ≡ None)
in_next known catalog below selects place select within is none =
    let both : unknown_in known catalog below (select ∷ drop (place + 1) selects) ≡ None =
    ap (λ next. unknown_in known catalog below (next ∷ drop (place + 1) selects)) is
    ∙ sym (at_drop_more (unknown_in known catalog below) selects place select within) ∙ none in (
      none_first (unknown_of known catalog below (references select)) (unknown_in known catalog below (drop (place + 1) selects)) both,
      none_second (unknown_of known catalog below (references select)) (unknown_in known catalog below (drop (place + 1) selects)) both,
    )
