-- Without an item they go on to read nothing else.
use Rattle.std.proofs.Common.{◌≡◌, ◌==◌, ℕ, Bool, true, false, ◌&&◌, cond, not, List, [], ◌∷◌, filter, refl, sym, subst, ◌∙◌, true≢false}
use Rattle.std.proofs.lemmas.Bool.{eq-eqb, eqb-true}
use Rattle.std.proofs.lemmas.List.Elements.{All-contains, All-contains_itself, All-from_recursion, recursion_from_All}
use Rattle.std.specs.Prelude.{Contains}
use Rattle.std.specs.List.{AllByRecursion as Each}
use Rattle.mz_plan.specs.Items.{Ascend, dependents, depends, is_index, others}
use Rattle.mz_plan.specs.declared.item.Item.{Item}
use Rattle.mz_plan.specs.declared.item.ItemKind.{ItemKind}
use Rattle.mz_plan.specs.declared.item.ItemKind.TheVariants.{Table, View, Index}
use Rattle.mz_plan.specs.declared.plan.Plan.{Plan}
use Rattle.mz_plan_laws.proofs.TypedValues.{each_kept}
use Rattle.mz_resolve_laws.proofs.DropLaws.{none_depends}
use Rattle.mz_resolve_laws.proofs.TypePlaces.{each_from}
use Rattle.mz_state_laws.specs.Reads.{AllReadOwn, IsClosed, Passes, ReadsOwn}
use Rattle.mz_state_laws.proofs.ReadsOnly.{index_weaker}

-- what holds of each that is kept holds of each, if it is kept
unfiltered : {X : Type 0} (P : X → Type 0) (keep : X → Bool) (xs : List X) → Each P (filter keep xs) → Each (λ x. keep x ≡ true → P x) xs
unfiltered P keep [] h = tt
unfiltered P keep (x ∷ xs) h = by (keep x) refl h (unfiltered P keep xs)
  where
    by : (c : Bool) → keep x ≡ c → Each P (cond c (x ∷ filter keep xs) (filter keep xs))
        → (Each P (filter keep xs) → Each (λ y. keep y ≡ true → P y) xs) → Each (λ y. keep y ≡ true → P y) (x ∷ xs)
    by true is k rest = (λ kept. k.0, rest k.1)
    by false is k rest = (λ kept. absurd (true≢false (sym kept ∙ is)), rest k)

-- so an item that is kept is there
still_there : {X : Type 0} (keep : X → Bool) (xs : List X) (x : X) → Contains xs x → keep x ≡ true → Contains (filter keep xs) x
still_there keep xs x there =
    All-contains (λ y. keep y ≡ true → Contains (filter keep xs) y) xs x
    (All-from_recursion (λ y. keep y ≡ true → Contains (filter keep xs) y) xs
    (unfiltered (Contains (filter keep xs)) keep xs
    (recursion_from_All (Contains (filter keep xs)) (filter keep xs) (All-contains_itself (filter keep xs))))) there

-- a number passes that isn't the one that goes
abbrev but : ℕ → (ℕ → Bool) → ℕ → Bool
but gone test number = not (number == gone) && test number

-- both sides of a test that holds
both : (a b : Bool) → (a && b) ≡ true → (a ≡ true) × (b ≡ true)
both true b h = (refl, h)
both false b h = cc

-- a test of two that hold
and_true : (a b : Bool) → a ≡ true → b ≡ true → (a && b) ≡ true
and_true true b h k = k
and_true false b h k = cc

-- a table or a view on which something depends isn't the one that goes
not_gone : (items : List Item) → Ascend items → (gone : ℕ) → dependents gone items ≡ [] → (item on : Item) → Contains items item
    → Contains items on → is_index on.kind ≡ false → depends item.kind on ≡ true → not (on.id == gone) ≡ true
not_gone items up gone none item on there below readable depending = by (on.id == gone) refl
  where
    by : (c : Bool) → (on.id == gone) ≡ c → not c ≡ true
    by true is =
        absurd (true≢false (sym depending ∙ none_depends items up gone none item there on
        (record { there = below; numbered = eqb-true on.id gone is; readable = readable })))
    by false is = refl

-- so what is closed without it is closed with it, if it doesn't pass
closed_more : (items : List Item) → Ascend items → (gone : ℕ) → dependents gone items ≡ [] → (test : ℕ → Bool)
    → IsClosed test (others gone items) → IsClosed (but gone test) items
closed_more items up gone none test h = record {
  closed = λ item on there below readable depending passes.
      let parts = both (not (item.id == gone)) (test item.id) passes in
      let stays = not_gone items up gone none item on there below readable depending in
      and_true (not (on.id == gone)) (test on.id) stays
      (h.closed item on (still_there (λ x. not (x.id == gone)) items item there parts.0)
      (still_there (λ x. not (x.id == gone)) items on below stays) readable depending parts.1);
}

-- and each that is kept is as before
kept_own : (plans : List (ℕ × Plan)) (items : List Item) → Ascend items → (gone : ℕ) → dependents gone items ≡ [] → (item : Item)
    → Contains items item → (kind : ItemKind) → item.kind ≡ kind → ReadsOwn plans items item.id kind
    → ReadsOwn plans (others gone items) item.id kind
kept_own plans items up gone none item there (Table columns) is h = tt
kept_own plans items up gone none item there (View columns query) is h = tt
kept_own plans items up gone none item there (Index on plan) is h =
    let stays : not (h.item.id == gone) ≡ true =
    not_gone items up gone none item h.item there h.there h.readable
    (subst (λ kind. depends kind h.item ≡ true) (sym is) (eq-eqb on h.item.id (sym h.numbered))) in
    record {
      item = h.item;
      there = still_there (λ x. not (x.id == gone)) items h.item h.there stays;
      numbered = h.numbered;
      readable = h.readable;
      within = λ test closed passes. index_weaker (Passes (but gone test)) (Passes test)
          (λ number k. (both (not (number == gone)) (test number) k).1) plans item.id
          (h.within (but gone test) (closed_more items up gone none test closed)
          (and_true (not (on == gone)) (test on) (subst (λ n. not (n == gone) ≡ true) h.numbered stays) passes));
    }

-- so all are
pub own_less : (plans : List (ℕ × Plan)) (items : List Item) → Ascend items → (gone : ℕ) → dependents gone items ≡ []
    → AllReadOwn plans items → AllReadOwn plans (others gone items)
own_less plans items up gone none h =
    each_kept (λ item. ReadsOwn plans (others gone items) item.id item.kind) (λ item. not (item.id == gone)) items
    (each_from (Contains items) (λ item. ReadsOwn plans items item.id item.kind) (λ item. ReadsOwn plans (others gone items) item.id item.kind)
    (λ item there is. kept_own plans items up gone none item there item.kind refl is) items
    (recursion_from_All (Contains items) items (All-contains_itself items)) h)
