-- Views whose query reads one item alone, and what they stand for by what that item does.
use Rattle.std.specs.Prelude.{ℕ, ◌≡◌, List, [], ◌∷◌, Some, Ok}
use Rattle.mz_statement.specs.declared.column.Column.{Column}
use Rattle.mz_statement.specs.declared.query.Select.{Select}
use Rattle.mz_statement.specs.declared.statement.Statement.{Statement}
use Rattle.mz_plan.specs.Items.{numbered, query_of}
use Rattle.mz_plan.specs.declared.item.Item.{Item}
use Rattle.mz_plan.specs.declared.item.ItemKind.TheVariants.{View}
use Rattle.mz_plan.specs.declared.scope.Scope.{Scope}
use Rattle.mz_catalog.specs.CatalogState.{CatalogState}
use Rattle.mz_resolution.specs.Columns.{name_or, sight_of}
use Rattle.mz_resolution.specs.Queries.{select_over, small}
use Rattle.mz_resolution.specs.Resolution.{relation_of}
use Rattle.mz_resolution.specs.Steps.{Step, ◌>>=◌}
use Rattle.mz_resolution.specs.declared.relation.NamedRelation.{NamedRelation}
use Rattle.mz_resolution.specs.declared.relation.Referred.{Referred}
use Rattle.mz_resolution.specs.declared.relation.Relation.{Relation}
use Rattle.mz_resolve.specs.Unknown.{item_below}

-- these are one select, without JOINs
pub record IsOnly (selects : List Select) (select : Select) : Type 0 where
  pub one : selects ≡ select ∷ []
  pub alone : select.joins ≡ []

-- a name finds the item of this number among those whose number is below another
pub record Finds (catalog : CatalogState) (below : ℕ) (name : List ℕ) (id : ℕ) : Type 0 where
  pub item : Item
  pub there : numbered id catalog.items ≡ Some item
  pub found : item_below catalog below name ≡ Some item

-- a view of these columns, whose query is this select, reads the item of this number alone
pub record IsLone (catalog : CatalogState) (view : Item) (columns : List Column) (select : Select) (id : ℕ) : Type 0 where
  pub query : Statement
  pub kind_is : view.kind ≡ View columns query
  pub only : IsOnly (query_of query) select
  pub finds : Finds catalog view.id select.first.name id

-- the only reference of a select, once its relation is found
abbrev pub referred_over : Select → Relation → Referred
referred_over select found = record { called = name_or select.first.alias select.first.name; relation = found }

-- the relation of a query of this select over the relation that its only reference names
abbrev pub queried_over : Select → Relation → Step Relation
queried_over select found = do
  whole ← select_over (sight_of (referred_over select found ∷ [])) (referred_over select found) [] select
  small whole

-- what a view of these columns stands for over what the item does that it reads alone
abbrev pub view_over : Scope → ℕ → List Column → Select → Step NamedRelation → Step NamedRelation
view_over scope view columns select kept = do
  found ← kept
  below ← queried_over select found.relation
  Ok (relation_of scope view columns below.plan below.tables)
