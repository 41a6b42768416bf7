-- A change makes or drops collections, so that they fit the state that it leaves.
use Rattle.std.proofs.Common.{◌≡◌, ◌<◌, ◌+◌, ◌==◌, ℕ, true, not, List, [], ◌∷◌, ◌++◌, refl, sym, ap, ◌∙◌, inl, arith}
use Rattle.std.specs.List.{AllByRecursion as Each}
use Rattle.mz_plan.specs.Items.{is_index}
use Rattle.mz_plan.specs.declared.item.Item.{Item}
use Rattle.mz_plan.specs.declared.item.ItemKind.{ItemKind}
use Rattle.mz_plan.specs.declared.item.ItemKind.TheVariants.{Table, View, Index}
use Rattle.mz_plan.specs.declared.plan.Plan.{Plan}
use Rattle.mz_plan_laws.proofs.TypedValues.{each_append, each_kept, each_weaker}
use Rattle.mz_rules.specs.declared.capability.Collection.{Collection}
use Rattle.mz_books.specs.Collections.{with_change, with_item, without_item}
use Rattle.mz_log.specs.Sequential.{Change, Made, Removed, Moved, Sequential, after_changes, new_bag, new_plan}
use Rattle.mz_replay_laws.proofs.Found.{moved_without}
use Rattle.mz_replay_laws.proofs.IndexPlans.{Fits, IsOwn, fits_after, fits_more, fits_moved}
use Rattle.mz_call_laws.specs.Members.{Has}
use Rattle.mz_call_laws.proofs.Lists.{has_right}

-- ---- one change

-- each item has a number that was used
abbrev pub AreUsed : Sequential → Type 0
AreUsed state = Each (λ item. item.id < state.database.next) state.database.items

-- what is made has the next number
abbrev pub IsNext : Sequential → Change → Type 0
IsNext state (Made item) = item.id ≡ state.database.next
IsNext state other = Unit {0}

-- the state once an item of this kind is made
abbrev made_state : Sequential → Item → ItemKind → Sequential
made_state state item kind = record {
  database = record {
    items = state.database.items ++ item ∷ [];
    next = state.database.next + 1;
    bags = state.database.bags ++ new_bag item.id kind;
  };
  plans = new_plan item.id kind ++ state.plans;
}

-- what an older number has it has once an item is made
own_made : (state : Sequential) (item : Item) (kind : ItemKind) → item.id ≡ state.database.next → (number : ℕ) (plan : Plan)
    → IsOwn state number plan → IsOwn (made_state state item kind) number plan
own_made state item kind next number plan h =
    let used = h.used in
    record {
      used = omega arith;
      own = each_append (λ other. other.id ≡ number → is_index other.kind ≡ true → Has (number, plan) (new_plan item.id kind ++ state.plans))
          state.database.items (item ∷ [])
          (each_weaker (λ other. other.id ≡ number → is_index other.kind ≡ true → Has (number, plan) state.plans)
          (λ other. other.id ≡ number → is_index other.kind ≡ true → Has (number, plan) (new_plan item.id kind ++ state.plans))
          (λ other k is index. has_right (number, plan) (new_plan item.id kind) state.plans (k is index)) state.database.items h.own)
          ((λ is index. absurd (omega (arith, is, next, used))), tt);
    }

-- and what the new one has, if it is that of an index
own_new : (state : Sequential) (item : Item) (kind : ItemKind) → AreUsed state → item.id ≡ state.database.next → (plan : Plan)
    → (is_index item.kind ≡ true → Has (item.id, plan) (new_plan item.id kind ++ state.plans))
    → IsOwn (made_state state item kind) item.id plan
own_new state item kind used next plan h = record {
  used = omega (arith, next);
  own = each_append (λ other. other.id ≡ item.id → is_index other.kind ≡ true → Has (item.id, plan) (new_plan item.id kind ++ state.plans))
      state.database.items (item ∷ [])
      (each_weaker (λ other. other.id < state.database.next)
      (λ other. other.id ≡ item.id → is_index other.kind ≡ true → Has (item.id, plan) (new_plan item.id kind ++ state.plans))
      (λ other below is index. absurd (omega (arith, below, is, next))) state.database.items used)
      ((λ is index. h index), tt);
}

-- an item that is made
made_fits : (state : Sequential) (item : Item) (kind : ItemKind) → item.kind ≡ kind → AreUsed state → item.id ≡ state.database.next
    → (time : ℕ) (cs : List Collection) → Fits state cs → Fits (made_state state item kind) (with_item time cs item kind)
made_fits state item (Table columns) is used next time cs fits =
    fits_more (made_state state item (Table columns)) cs _ refl
    (λ _. own_new state item (Table columns) used next _ (λ index. absurd (let k = sym (ap is_index is) ∙ index in cc)))
    (fits_after state (made_state state item (Table columns)) cs (own_made state item (Table columns) next) fits)
made_fits state item (Index on plan) is used next time cs fits =
    fits_more (made_state state item (Index on plan)) cs _ refl (λ _. own_new state item (Index on plan) used next plan (λ index. inl refl))
    (fits_after state (made_state state item (Index on plan)) cs (own_made state item (Index on plan) next) fits)
made_fits state item (View columns query) is used next time cs fits =
    fits_after state (made_state state item (View columns query)) cs (own_made state item (View columns query) next) fits

-- any change
pub change_fits : (state : Sequential) → AreUsed state → (change : Change) → IsNext state change → (time : ℕ) (cs : List Collection) → Fits state cs
    → Fits (after_changes state (change ∷ [])) (with_change time cs change)
change_fits state used (Made item) next time cs fits = made_fits state item item.kind refl used next time cs fits
change_fits state used (Removed id) next time cs fits =
    fits_moved (after_changes state (Removed id ∷ [])) (without_item id) (moved_without id) cs
    (fits_after state (after_changes state (Removed id ∷ [])) cs
    (λ number plan h. record {
      used = h.used;
      own = each_kept (λ item. item.id ≡ number → is_index item.kind ≡ true → Has (number, plan) state.plans) (λ item. not (item.id == id))
          state.database.items h.own;
    }) fits)
change_fits state used (Moved table rows) next time cs fits =
    fits_after state (after_changes state (Moved table rows ∷ [])) cs (λ number plan h. record { used = h.used; own = h.own }) fits
