-- A state stays well as it is, without an item, and with other rows in a table.
use Rattle.std.proofs.Common.{◌≡◌, ◌≢◌, ◌<◌, ◌≤◌, ◌==◌, ℕ, suc, Bool, true, false, cond, not, List, [], ◌∷◌, length, refl, sym, subst, ◌∙◌, arith}
use Rattle.std.proofs.lemmas.List.Elements.{All-filter}
use Rattle.std.proofs.lemmas.List.Kept.{AllPairs-filter}
use Rattle.std.specs.Prelude.{filter}
use Rattle.mz_bag.specs.Weighted.{Weighted}
use Rattle.mz_plan.specs.Items.{dependents}
use Rattle.mz_plan_laws.proofs.TypedValues.{each_kept}
use Rattle.mz_resolve_laws.proofs.OverLaws.{drop_over}
use Rattle.mz_resolve_laws.proofs.TypesStay.{drop_typed}
use Rattle.mz_resolve_laws.specs.TypedOver.{LeafTypes}
use Rattle.mz_log.specs.Sequential.{Moved, Removed, Sequential, added, bag_at}
use Rattle.mz_state_laws.specs.Well.{IsTableBag, IsWellAfter, IsWellOver, scope_in}
use Rattle.mz_state_laws.proofs.NumbersStay.{Rise, each_moved, numbers_kept, numbers_less, tables_rise}
use Rattle.mz_state_laws.proofs.ReadsLess.{own_less}
use Rattle.mz_state_laws.proofs.Refusals.{after}

-- a state that stays as it is
pub well_still : (types : LeafTypes) (state : Sequential) → IsWellOver types state → IsWellAfter types state state
well_still types state well = record { later = types; same = λ number below. refl; over = well }

-- ---- an item less

-- what is left of a list is no longer
filter_short : {X : Type 0} (keep : X → Bool) (xs : List X) → length (filter keep xs) ≤ length xs
filter_short keep [] = omega arith
filter_short keep (x ∷ xs) = by (keep x) (filter_short keep xs)
  where
    by : (c : Bool) → length (filter keep xs) ≤ length xs → length (cond c (x ∷ filter keep xs) (filter keep xs)) ≤ suc (length xs)
    by true h = omega (arith, h)
    by false h = omega (arith, h)

-- without an item on which none depends a state is well
pub well_removed : (types : LeafTypes) (state : Sequential) (id : ℕ) → IsWellOver types state → dependents id state.database.items ≡ []
    → IsWellAfter types state (after state (Removed id))
well_removed types state id well none = record {
  later = types;
  same = λ number below. refl;
  over = record {
    names = AllPairs-filter (λ one other. one.name ≢ other.name) (λ item. not (item.id == id)) state.database.items well.names;
    few = omega (arith, filter_short (λ item. not (item.id == id)) state.database.items, well.few);
    below = All-filter (λ item. not (item.id == id)) (λ item. item.id < state.database.next) state.database.items well.below;
    made = well.made;
    sound = drop_over state.plans (scope_in state 0) well.sound id none;
    typed = drop_typed types state.plans (scope_in state 0) well.sound.sound.numbers well.typed id none;
    narrow = well.narrow;
    reads = own_less state.plans state.database.items well.sound.sound.numbers id none well.reads;
    tables = numbers_less state.database.items state.database.bags id well.tables;
    bags = each_kept (λ bag. IsTableBag (types bag.0) bag.1) (λ bag. not (bag.0 == id)) state.database.bags well.bags;
  };
}

-- ---- other rows

-- with rows that may come to a table, or go, a state is well
pub well_moved : (types : LeafTypes) (state : Sequential) (table : ℕ) (rows : Weighted) → IsWellOver types state
    → (IsTableBag (types table) (bag_at state.database.bags table) → IsTableBag (types table) (added (bag_at state.database.bags table) rows))
    → IsWellAfter types state (after state (Moved table rows))
well_moved types state table rows well moves = record {
  later = types;
  same = λ number below. refl;
  over = record {
    names = well.names;
    few = well.few;
    below = well.below;
    made = well.made;
    sound = well.sound;
    typed = well.typed;
    narrow = well.narrow;
    reads = well.reads;
    tables = numbers_kept table rows state.database.bags ∙ well.tables;
    bags = each_moved (λ number bag. IsTableBag (types number) bag) table rows state.database.bags
        (subst Rise (sym well.tables) (tables_rise state.database.items well.sound.sound.numbers)) well.bags moves;
  };
}
