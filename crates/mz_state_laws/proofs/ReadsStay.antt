-- With an item more, indexes read nothing but what they are on, and what that depends on.
use Rattle.std.proofs.Common.{◌<◌, ℕ, Bool, List, [], ◌∷◌, ◌++◌, refl, sym, subst, arith}
use Rattle.std.proofs.lemmas.Bool.{eq-eqb, ne_eqb}
use Rattle.std.proofs.lemmas.List.Elements.{Contains-append_left, recursion_from_All}
use Rattle.std.specs.Prelude.{All}
use Rattle.mz_plan.specs.Bound.{either_of}
use Rattle.mz_plan.specs.Leaves.{AllLeaves}
use Rattle.mz_plan.specs.declared.item.Item.{Item}
use Rattle.mz_plan.specs.declared.item.ItemKind.{ItemKind}
use Rattle.mz_plan.specs.declared.item.ItemKind.TheVariants.{Table, View, Index}
use Rattle.mz_plan.specs.declared.plan.Plan.{Plan}
use Rattle.mz_plan_laws.proofs.TypedValues.{each_append}
use Rattle.mz_resolve_laws.proofs.TypePlaces.{each_from}
use Rattle.mz_log.specs.Sequential.{new_plan}
use Rattle.mz_state_laws.specs.Reads.{AllReadOwn, IndexReadsOnly, IsClosed, Passes, ReadsOwn}

-- an older index reads what it read
older_reads : (P : ℕ → Type 0) (plans : List (ℕ × Plan)) (new : ℕ) (kind : ItemKind) (number : ℕ) → number < new → IndexReadsOnly P plans number
    → IndexReadsOnly P (new_plan new kind ++ plans) number
older_reads P plans new (Table columns) number less h = h
older_reads P plans new (View columns query) number less h = h
older_reads P plans new (Index on plan) number less h =
    subst (λ c. either_of c (AllLeaves P (IndexReadsOnly P plans) plan) (IndexReadsOnly P plans number))
    (sym (ne_eqb new number (λ e. omega (arith, e, less)))) h

-- what is closed among more items is closed among fewer
pub closed_fewer : (test : ℕ → Bool) (items more : List Item) → IsClosed test (items ++ more) → IsClosed test items
closed_fewer test items more h = record {
  closed = λ item on there below. h.closed item on (Contains-append_left items more item there) (Contains-append_left items more on below);
}

-- so each older item is as before
older_own : (plans : List (ℕ × Plan)) (items : List Item) (new : Item) (number : ℕ) (kind : ItemKind) → number < new.id
    → ReadsOwn plans items number kind → ReadsOwn (new_plan new.id new.kind ++ plans) (items ++ new ∷ []) number kind
older_own plans items new number (Table columns) less h = tt
older_own plans items new number (View columns query) less h = tt
older_own plans items new number (Index on plan) less h = record {
  item = h.item;
  there = Contains-append_left items (new ∷ []) h.item h.there;
  numbered = h.numbered;
  readable = h.readable;
  within = λ test closed passes. older_reads (Passes test) plans new.id new.kind number less
      (h.within test (closed_fewer test items (new ∷ []) closed) passes);
}

-- with one that is too, all are
pub own_more : (plans : List (ℕ × Plan)) (items : List Item) (new : Item) → All (λ item. item.id < new.id) items
    → AllReadOwn plans items
    → ReadsOwn (new_plan new.id new.kind ++ plans) (items ++ new ∷ []) new.id new.kind
    → AllReadOwn (new_plan new.id new.kind ++ plans) (items ++ new ∷ [])
own_more plans items new below h own =
    each_append (λ item. ReadsOwn (new_plan new.id new.kind ++ plans) (items ++ new ∷ []) item.id item.kind) items (new ∷ [])
    (each_from (λ item. item.id < new.id) (λ item. ReadsOwn plans items item.id item.kind)
    (λ item. ReadsOwn (new_plan new.id new.kind ++ plans) (items ++ new ∷ []) item.id item.kind)
    (λ item less is. older_own plans items new item.id item.kind less is) items
    (recursion_from_All (λ item. item.id < new.id) items below) h)
    (own, tt)

-- a new index reads what its plan does
pub newest_reads : (P : ℕ → Type 0) (plans : List (ℕ × Plan)) (new : ℕ) (plan : Plan) → AllLeaves P (IndexReadsOnly P plans) plan
    → IndexReadsOnly P ((new, plan) ∷ plans) new
newest_reads P plans new plan h =
    subst (λ c. either_of c (AllLeaves P (IndexReadsOnly P plans) plan) (IndexReadsOnly P plans new)) (sym (eq-eqb new new refl)) h
