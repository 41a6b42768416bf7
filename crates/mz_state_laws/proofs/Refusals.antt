-- What is made where there is no refusal.
use Rattle.std.proofs.Common.{◌≡◌, ◌≢◌, ◌<◌, ℕ, Bool, true, false, cond, List, [], ◌∷◌, Option, None, Some, bytes_eq, is_some, length, nat_le, refl, sym, ◌∙◌, true≢false, arith}
use Rattle.std.proofs.lemmas.List.Elements.{All-cons, All-nil}
use Rattle.std.proofs.lemmas.Slice.Eq.{bytes_eq-Decides}
use Rattle.std.specs.Prelude.{All}
use Rattle.mz_plan.specs.Items.{named}
use Rattle.mz_plan.specs.declared.item.Item.{Item}
use Rattle.mz_refusal.specs.declared.refusal.Refusal.{Refusal}
use Rattle.mz_log.specs.CarriedOut.{most_items}
use Rattle.mz_log.specs.Sequential.{Change, Sequential, after_changes}
use Rattle.std.proofs.Common.{◌≡◌, ◌<◌, ℕ, Bool, true, false, cond, List, [], ◌∷◌, Option, None, Some, is_some, length, nat_le, refl, sym, ◌∙◌, arith}
use Rattle.mz_statement.specs.declared.column.Column.{Column}
use Rattle.mz_plan.specs.Items.{named}
use Rattle.mz_refusal.specs.declared.refusal.Limited.TheVariants.{Items}
use Rattle.mz_refusal.specs.declared.refusal.Refusal.TheVariants.{NameTaken, TooMany}
use Rattle.mz_resolution.specs.Resolution.{first_of}
use Rattle.mz_log.specs.CarriedOut.{changing, crowded, most_items, taken, twin_behind, unmakable}
use Rattle.mz_log.specs.Sequential.{Change, Sequential, after_changes}
use Rattle.mz_log.specs.declared.reply.SeqReply.{SeqReply}

-- the state after one change
abbrev pub after : Sequential → Change → Sequential
after state change = after_changes state (change ∷ [])

-- a change is made unless there is a refusal, so what holds either way holds
pub unless_refused : (state : Sequential) (why : Option Refusal) (told : SeqReply) (change : Change) (P : Sequential → Type 0) → P state
    → (why ≡ None → P (after_changes state (change ∷ []))) → P (after_changes state (changing why told change).changes)
unless_refused state None told change P still made = made refl
unless_refused state (Some refusal) told change P still made = still

-- ---- names and places

-- a name and a place are free for an item
pub record IsFree (items : List Item) (name : List ℕ) : Type 0 where
  pub free : named name items ≡ None
  pub room : length items < most_items

-- where no item has the name, each has another one
pub others_named : (name : List ℕ) (items : List Item) → named name items ≡ None → All (λ item. item.name ≢ name) items
others_named name [] none = All-nil _
others_named name (item ∷ items) none = by (bytes_eq name item.name) refl none (others_named name items)
  where
    by : (b : Bool) → bytes_eq name item.name ≡ b → cond b (Some item) (named name items) ≡ None
        → (named name items ≡ None → All (λ item. item.name ≢ name) items) → All (λ item. item.name ≢ name) (item ∷ items)
    by true is none rest = cc
    by false is none rest =
        All-cons (λ item. item.name ≢ name) item items
        (λ same. true≢false (sym ((bytes_eq-Decides name item.name).1 (sym same)) ∙ is)) (rest none)

-- where neither of two refuses, the second doesn't
second_none : (first second : Option Refusal) → first_of first second ≡ None → second ≡ None
second_none None second h = h
second_none (Some refusal) second h = cc

-- nor the first
first_none : (first second : Option Refusal) → first_of first second ≡ None → first ≡ None
first_none None second h = refl
first_none (Some refusal) second h = cc

-- a name that isn't taken is free
free_name : (items : List Item) (name : List ℕ) → taken items name ≡ None → named name items ≡ None
free_name items name h = by (named name items) h
  where
    by : (found : Option Item) → cond (is_some found) (Some (NameTaken name)) None ≡ None → found ≡ None
    by None k = refl
    by (Some item) k = cc

-- and so is a place where it isn't crowded
free_room : (items : List Item) → crowded items ≡ None → length items < most_items
free_room items h = by (nat_le most_items (length items)) refl h
  where
    by : (c : Bool) → nat_le most_items (length items) ≡ c → cond c (Some (TooMany Items most_items)) None ≡ None → length items < most_items
    by true is k = cc
    by false is k = grind arith

-- both are where an item can be made
pub free_both : (items : List Item) (name : List ℕ) (columns : List Column) → unmakable items name columns ≡ None → IsFree items name
free_both items name columns h =
    let rest = second_none (twin_behind [] columns) (first_of (taken items name) (crowded items)) h in
    record {
      free = free_name items name (first_none (taken items name) (crowded items) rest);
      room = free_room items (second_none (taken items name) (crowded items) rest);
    }
