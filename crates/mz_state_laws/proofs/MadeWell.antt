-- A state stays well with an item more.
use Rattle.std.proofs.Common.{◌≡◌, ◌≢◌, ◌<◌, ◌+◌, ℕ, [], ◌∷◌, ◌++◌, sym, subst, arith}
use Rattle.std.proofs.lemmas.List.{length-append}
use Rattle.std.proofs.lemmas.List.Elements.{All-append, All-cons, All-nil, All-push, recursion_from_All}
use Rattle.std.proofs.lemmas.List.Quantifiers.{all_pairs_push}
use Rattle.std.specs.Prelude.{All}
use Rattle.std.specs.List.{AllByRecursion as Each}
use Rattle.mz_plan.specs.declared.item.Item.{Item}
use Rattle.mz_plan.specs.declared.item.ItemKind.{ItemKind}
use Rattle.mz_plan.specs.declared.item.ItemKind.TheVariants.{Table, View, Index}
use Rattle.mz_plan_laws.proofs.TypedValues.{each_append, each_unmap}
use Rattle.mz_resolve_laws.proofs.TypePlaces.{each_from}
use Rattle.mz_resolve_laws.specs.SoundOver.{IsSoundOver}
use Rattle.mz_resolve_laws.specs.TypedOver.{IsTypedOver, LeafTypes}
use Rattle.mz_log.specs.Sequential.{Made, Sequential, new_bag, new_plan}
use Rattle.mz_state_laws.specs.Reads.{ReadsOwn}
use Rattle.mz_state_laws.specs.Well.{AreNarrow, IsTableBag, IsWellAfter, IsWellOver, scope_in}
use Rattle.mz_state_laws.proofs.NumbersStay.{each_table, numbers_more}
use Rattle.mz_state_laws.proofs.ReadsStay.{own_more}
use Rattle.mz_state_laws.proofs.RowsStay.{rows_none}
use Rattle.mz_state_laws.proofs.Refusals.{IsFree, after, others_named}

-- the plan that comes with an item has its number
new_made : (number limit : ℕ) (kind : ItemKind) → number < limit → All (λ index. index.0 < limit) (new_plan number kind)
new_made number limit (Table columns) less = All-nil _
new_made number limit (View columns query) less = All-nil _
new_made number limit (Index on plan) less = All-cons (λ index. index.0 < limit) (number, plan) [] less (All-nil _)

-- the bag that comes with a table has no row
new_rows : (types : LeafTypes) (number : ℕ) (kind : ItemKind) → Each (λ bag. IsTableBag (types bag.0) bag.1) (new_bag number kind)
new_rows types number (Table columns) = (rows_none (types number), tt)
new_rows types number (View columns query) = tt
new_rows types number (Index on plan) = tt

-- all bags have numbers below the next one
pub bags_below : (types : LeafTypes) (state : Sequential) → IsWellOver types state → Each (λ bag. bag.0 < state.database.next) state.database.bags
bags_below types state well =
    each_unmap (λ n. n < state.database.next) (λ bag. bag.0) state.database.bags
    (subst (Each (λ n. n < state.database.next)) (sym well.tables)
    (each_table (λ n. n < state.database.next) state.database.items
    (recursion_from_All (λ item. item.id < state.database.next) state.database.items well.below)))

-- so they are as they have to be, if the types of these numbers stay
bags_typed : (types later : LeafTypes) (state : Sequential) → IsWellOver types state
    → ((number : ℕ) → number < state.database.next → types number ≡ later number)
    → Each (λ bag. IsTableBag (later bag.0) bag.1) state.database.bags
bags_typed types later state well same =
    each_from (λ bag. IsTableBag (types bag.0) bag.1) (λ bag. bag.0 < state.database.next) (λ bag. IsTableBag (later bag.0) bag.1)
    (λ bag is less. subst (λ ts. IsTableBag ts bag.1) (same bag.0 less) is)
    state.database.bags well.bags (bags_below types state well)

-- with a new item, which fits, a state is well
pub well_made : (types later : LeafTypes) (state : Sequential) (item : Item) → IsWellOver types state
    → item.id ≡ state.database.next → IsFree state.database.items item.name
    → ((number : ℕ) → number < state.database.next → types number ≡ later number)
    → IsSoundOver (new_plan item.id item.kind ++ state.plans) (scope_in (after state (Made item)) 0)
    → IsTypedOver later (new_plan item.id item.kind ++ state.plans) (scope_in (after state (Made item)) 0)
    → AreNarrow (new_plan item.id item.kind ++ state.plans)
    → ReadsOwn (new_plan item.id item.kind ++ state.plans) (state.database.items ++ item ∷ []) item.id item.kind
    → IsWellAfter types state (after state (Made item))
well_made types later state item well number free same sound typed narrow own = record {
  later = later;
  same = same;
  over = record {
    names = all_pairs_push (λ one other. one.name ≢ other.name) state.database.items item well.names
        (others_named item.name state.database.items free.free);
    few = omega (arith, length-append state.database.items (item ∷ []), free.room);
    below = All-push (λ item. item.id < state.database.next + 1) state.database.items item
        (λ k d within. omega (arith, well.below k d within)) (omega (arith, number));
    made = All-append (λ index. index.0 < state.database.next + 1) (new_plan item.id item.kind) state.plans
        (new_made item.id (state.database.next + 1) item.kind (omega (arith, number)))
        (λ k d within. omega (arith, well.made k d within));
    sound = sound;
    typed = typed;
    narrow = narrow;
    reads = own_more state.plans state.database.items item (λ k d within. omega (arith, well.below k d within, number)) well.reads own;
    tables = numbers_more state.database.items state.database.bags item well.tables;
    bags = each_append (λ bag. IsTableBag (later bag.0) bag.1) state.database.bags (new_bag item.id item.kind)
        (bags_typed types later state well same) (new_rows later item.id item.kind);
  };
}
