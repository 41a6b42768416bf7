-- When the indexes of a scope read few tables, over the plans of all indexes ever made.
use Rattle.std.specs.Prelude.{◌≤◌, ◌<◌, ◌==◌, ℕ, List, [], ◌∷◌, All, Contains, Ok, Err, if◌then◌else◌, ⊤}
use Rattle.std.specs.List.{AllByRecursion as Each}
use Rattle.mz_plan.specs.Small.{index_reads, most_tables, tables_read}
use Rattle.mz_plan.specs.declared.item.Item.{Item}
use Rattle.mz_plan.specs.declared.item.ItemKind.{ItemKind}
use Rattle.mz_plan.specs.declared.item.ItemKind.TheVariants.{Index}
use Rattle.mz_plan.specs.declared.plan.Plan.{Plan}
use Rattle.mz_plan.specs.declared.resolved.Resolved.{Resolved}
use Rattle.mz_plan.specs.declared.resolved.Resolved.TheVariants as resolved
use Rattle.mz_plan.specs.declared.scope.Scope.{Scope}
use Rattle.mz_resolution.specs.declared.relation.NamedRelation.{NamedRelation}
use Rattle.mz_resolution.specs.Resolution.{item_relation, newest_first}
use Rattle.mz_resolution.specs.Steps.{Step}
use Rattle.mz_plan.specs.Indexes.{AreNewestFirst}
use Rattle.mz_resolve_laws.specs.Sound.{IsSound, names_among}

-- the plans of all indexes ever made, each with its number, the newest first. An index that was dropped stays among them
abbrev pub Made : Type 0
Made = List (ℕ × Plan)

-- how many tables what is found names, none where nothing is
abbrev pub tables_found : Step NamedRelation → ℕ
tables_found (Ok found) = found.relation.tables
tables_found (Err refusal) = 0

-- how many tables the item of this number names, among some items of a scope with the newest first: 1 for a table, and for a
-- view those of its query. What is not there names none
abbrev pub tables_of_item : Scope → List Item → ℕ → ℕ
tables_of_item scope [] number = 0
tables_of_item scope (item ∷ older) number =
    if item.id == number then tables_found (item_relation scope (names_among scope older) item item.kind)
    else tables_of_item scope older number

-- an index has its plan among those made, and reads at most as many tables as what it is on names
pub record IsMadeIndex (plans : Made) (scope : Scope) (number on : ℕ) (plan : Plan) : Type 0 where
  pub made : Contains plans (number, plan)
  pub few : index_reads plans number ≤ tables_of_item scope (newest_first scope) on

-- so it is with an item that is an index
abbrev pub IsMade : Made → Scope → ℕ → ItemKind → Type 0
IsMade plans scope number (Index on plan) = IsMadeIndex plans scope number on plan
IsMade plans scope number kind = ⊤

-- a sound scope, each index of which is among those made; and the newest of these stands first
pub record IsSoundOver (plans : Made) (scope : Scope) : Type 0 where
  pub sound : IsSound scope
  pub order : AreNewestFirst plans
  pub indexes : Each (λ item. IsMade plans scope item.id item.kind) scope.items

-- the plans made with one item more
abbrev pub made_with : ℕ → ItemKind → Made → Made
made_with number (Index on plan) plans = (number, plan) ∷ plans
made_with number kind plans = plans

-- a number is above those of all indexes ever made
abbrev pub IsNewAmong : Made → ℕ → Type 0
IsNewAmong plans number = All (λ older. older.0 < number) plans

-- the plan of a query or of an index reads at most as many tables as a query may, also through indexes
abbrev pub ReadsFew : Made → Resolved → Type 0
ReadsFew plans (resolved.Query plan) = tables_read (index_reads plans) plan ≤ most_tables
ReadsFew plans (resolved.CreateIndex name on plan cluster) = tables_read (index_reads plans) plan ≤ most_tables
ReadsFew plans other = ⊥
