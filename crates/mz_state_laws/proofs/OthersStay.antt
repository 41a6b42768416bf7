-- A statement leaves the rows of all tables but the one that it changes or removes.
use Rattle.std.proofs.Common.{◌≡◌, ◌==◌, ℕ, Bool, true, false, cond, not, [], ◌∷◌, ◌++◌, refl, sym, ap, ◌∙◌}
use Rattle.std.proofs.lemmas.Bool.{eqb-true}
use Rattle.std.specs.FinMap.{empty}
use Rattle.mz_bag.specs.Bag.{Counts}
use Rattle.mz_bag.specs.Weighted.{Weighted}
use Rattle.mz_plan.specs.declared.item.ItemKind.{ItemKind}
use Rattle.mz_plan.specs.declared.item.ItemKind.TheVariants.{Table, View, Index}
use Rattle.mz_plan.specs.declared.resolved.Resolved.{Resolved}
use Rattle.mz_plan.specs.declared.resolved.Resolved.TheVariants as asked
use Rattle.mz_log.specs.CarriedOut.{carried_out}
use Rattle.mz_log.specs.Sequential.{Bags, Sequential, added, bag_at, new_bag, with_rows, without_bag}
use Rattle.mz_state_laws.specs.Growth.{touches}
use Rattle.mz_state_laws.proofs.Refusals.{unless_refused}

-- what comes with an item has no row
new_none : (number : ℕ) (kind : ItemKind) (n : ℕ) → bag_at (new_bag number kind) n ≡ empty
new_none number (Table columns) n = by (number == n) empty
  where
    by : (c : Bool) (none : Counts) → cond c none none ≡ none
    by true none = refl
    by false none = refl
new_none number (View columns query) n = refl
new_none number (Index on plan) n = refl

-- so with it each number has the rows that it had
made_stays : (bags : Bags) (number : ℕ) (kind : ItemKind) (n : ℕ) → bag_at (bags ++ new_bag number kind) n ≡ bag_at bags n
made_stays [] number kind n = new_none number kind n
made_stays (bag ∷ bags) number kind n = ap (cond (bag.0 == n) bag.1) (made_stays bags number kind n)

-- a number that another is differs from what that other isn't
differs : (m id n : ℕ) → (m == id) ≡ true → (id == n) ≡ false → (m == n) ≡ false
differs m id n same apart = ap (λ k. k == n) (eqb-true m id same) ∙ apart

-- without one bag, each other number has the rows that it had
removed_stays : (bags : Bags) (id n : ℕ) → (id == n) ≡ false → bag_at (without_bag id bags) n ≡ bag_at bags n
removed_stays [] id n apart = refl
removed_stays (bag ∷ bags) id n apart = by (bag.0 == id) refl (removed_stays bags id n apart)
  where
    by : (c : Bool) → (bag.0 == id) ≡ c → bag_at (without_bag id bags) n ≡ bag_at bags n
        → bag_at (cond (not c) (bag ∷ without_bag id bags) (without_bag id bags)) n ≡ bag_at (bag ∷ bags) n
    by true is rest = rest ∙ sym (ap (λ c. cond c bag.1 (bag_at bags n)) (differs bag.0 id n is apart))
    by false is rest = ap (cond (bag.0 == n) bag.1) rest

-- and so it has where rows come to one
moved_stays : (bags : Bags) (table : ℕ) (rows : Weighted) (n : ℕ) → (table == n) ≡ false
    → bag_at (with_rows table rows bags) n ≡ bag_at bags n
moved_stays [] table rows n apart = refl
moved_stays (bag ∷ bags) table rows n apart = by (bag.0 == table) refl (moved_stays bags table rows n apart)
  where
    by : (c : Bool) → (bag.0 == table) ≡ c → bag_at (with_rows table rows bags) n ≡ bag_at bags n
        → bag_at (cond c (bag.0, added bag.1 rows) bag ∷ with_rows table rows bags) n ≡ bag_at (bag ∷ bags) n
    by true is rest =
        ap (λ c. cond c (added bag.1 rows) (bag_at (with_rows table rows bags) n)) (differs bag.0 table n is apart)
        ∙ rest ∙ sym (ap (λ c. cond c bag.1 (bag_at bags n)) (differs bag.0 table n is apart))
    by false is rest = ap (cond (bag.0 == n) bag.1) rest

-- a number has the rows in a state that it has in another
abbrev Stays : Sequential → ℕ → Sequential → Type 0
Stays state n later = bag_at later.database.bags n ≡ bag_at state.database.bags n

-- whatever is asked for, a number that it doesn't touch has the rows that it had
pub asked_stays : (state : Sequential) (done : Resolved) (n : ℕ) → touches done n ≡ false
    → bag_at (carried_out state done).state.database.bags n ≡ bag_at state.database.bags n
asked_stays state (asked.CreateTable name columns) n h =
    unless_refused state _ _ _ (Stays state n) refl (λ none. made_stays state.database.bags _ (Table columns) n)
asked_stays state (asked.CreateView name columns query) n h =
    unless_refused state _ _ _ (Stays state n) refl (λ none. made_stays state.database.bags 0 (View columns query) n)
asked_stays state (asked.CreateIndex name on plan cluster) n h =
    unless_refused state _ _ _ (Stays state n) refl (λ none. made_stays state.database.bags 0 (Index on plan) n)
asked_stays state (asked.Drop id) n h = unless_refused state _ _ _ (Stays state n) refl (λ none. removed_stays state.database.bags id n h)
asked_stays state (asked.Insert table rows) n h =
    unless_refused state _ _ _ (Stays state n) refl (λ none. moved_stays state.database.bags table _ n h)
asked_stays state (asked.Delete table cond) n h = moved_stays state.database.bags table _ n h
asked_stays state (asked.Query plan) n h = refl
