-- Which tables a plan reads, also through the plans of indexes; and which an index may read.
use Rattle.std.specs.Prelude.{◌≡◌, ◌==◌, ℕ, Bool, true, false, Contains, List, [], ◌∷◌, ⊤}
use Rattle.std.specs.List.{AllByRecursion as Each, list_any}
use Rattle.mz_plan.specs.Bound.{either_of}
use Rattle.mz_plan.specs.Items.{depends, is_index}
use Rattle.mz_plan.specs.Leaves.{AllLeaves}
use Rattle.mz_plan.specs.declared.item.Item.{Item}
use Rattle.mz_plan.specs.declared.item.ItemKind.{ItemKind}
use Rattle.mz_plan.specs.declared.item.ItemKind.TheVariants.{Index}
use Rattle.mz_plan.specs.declared.plan.Plan.{Plan}
use Rattle.mz_plan.specs.declared.resolved.Resolved.{Resolved}
use Rattle.mz_plan.specs.declared.resolved.Resolved.TheVariants as asked
use Rattle.mz_log.specs.Sequential.{Sequential}

-- each table that an index reads is as it has to be, given the plans of all with the newest first.
-- What is no index reads none
abbrev pub IndexReadsOnly : (ℕ → Type 0) → List (ℕ × Plan) → ℕ → Type 0
IndexReadsOnly P [] item = ⊤
IndexReadsOnly P (newest ∷ older) item =
    either_of (newest.0 == item) (AllLeaves P (IndexReadsOnly P older) newest.1)
    (IndexReadsOnly P older item)

-- and so is each that a plan reads, itself or through indexes
abbrev pub ReadsOnly : (ℕ → Type 0) → List (ℕ × Plan) → Plan → Type 0
ReadsOnly P plans plan = AllLeaves P (IndexReadsOnly P plans) plan

-- a number passes the test
abbrev pub Passes : (ℕ → Bool) → ℕ → Type 0
Passes test number = test number ≡ true

-- an item has the number
abbrev pub is_there : List Item → ℕ → Bool
is_there items number = list_any (λ item. item.id == number) items

-- with each item whose number passes, each table or view on which it depends passes
pub record IsClosed (test : ℕ → Bool) (items : List Item) : Type 0 where
  pub closed : (item on : Item) → Contains items item → Contains items on → is_index on.kind ≡ false
      → depends item.kind on ≡ true → Passes test item.id → Passes test on.id

-- what an index is on is there, and the index reads nothing but that, and what that depends on: all
-- that it reads passes each test that is closed and that what it is on passes
pub record ReadsBelow (plans : List (ℕ × Plan)) (items : List Item) (number on : ℕ) : Type 0 where
  pub item : Item
  pub there : Contains items item
  pub numbered : item.id ≡ on
  pub readable : is_index item.kind ≡ false
  pub within : (test : ℕ → Bool) → IsClosed test items → Passes test on
      → IndexReadsOnly (Passes test) plans number

-- so it is with an item that is an index
abbrev pub ReadsOwn : List (ℕ × Plan) → List Item → ℕ → ItemKind → Type 0
ReadsOwn plans items number (Index on plan) = ReadsBelow plans items number on
ReadsOwn plans items number kind = ⊤

-- and so it is with all of the items
abbrev pub AllReadOwn : List (ℕ × Plan) → List Item → Type 0
AllReadOwn plans items = Each (λ item. ReadsOwn plans items item.id item.kind) items

-- a plan reads only what is there in a state, also through the plans of indexes that were dropped
abbrev pub ReadsThere : Sequential → Plan → Type 0
ReadsThere state plan = ReadsOnly (Passes (is_there state.database.items)) state.plans plan

-- and so does the plan that a query or a new index asks for
abbrev pub AsksThere : Sequential → Resolved → Type 0
AsksThere state (asked.Query plan) = ReadsThere state plan
AsksThere state (asked.CreateIndex name on plan cluster) = ReadsThere state plan
AsksThere state other = ⊥
